-- A decimal by its leading digits: what a reader finds, and that nothing else is one.
use Rattle.std.proofs.Common.{eqb, ◌≡◌, ℕ, ◌+◌, ◌-◌, ◌*◌, ◌^◌, ◌<◌, ◌≤◌, cond, ◌⊎◌, List, [], ◌∷◌, ◌++◌, length, get_or, drop, sym, refl, ap, ◌∙◌, subst, inl, inr, arith}
use Rattle.std.specs.List.{AllByRecursion}
use Rattle.std.specs.Char.{is_ascii_digit}
use Rattle.std.proofs.lemmas.List.{drop_at, drop-drop, length-append, append-nil, drop_more, get_or-drop, append_cancel_left}
use Rattle.digits.specs.Bytes.{Digit, Space}
use Rattle.digits.specs.Numerals.{front, read_on, pointed, Decimal, Part}
use Rattle.digits.proofs.Fronts.{front-append, front_digits, front_past}

-- the digits after the point
abbrev pub behind : List ℕ → List ℕ
behind bs = front (drop (length (front bs) + 1) bs)

-- no point
pub record Plain (places : ℕ) (bs : List ℕ) (n : ℕ) : Type 0 where
  pub spaces : AllByRecursion Space (drop (length (front bs)) bs)
  pub count : n ≡ read_on 0 (front bs) * 10 ^ places

-- with a point
pub record Parted (places : ℕ) (bs : List ℕ) (n : ℕ) : Type 0 where
  pub inside : length (front bs) < length bs
  pub point : get_or bs (length (front bs)) 0 ≡ 46
  pub some : 0 < length (behind bs)
  pub few : length (behind bs) ≤ places
  pub spaces : AllByRecursion Space (drop (length (front bs) + 1 + length (behind bs)) bs)
  pub count : n ≡ read_on (read_on 0 (front bs)) (behind bs) * 10 ^ (places - length (behind bs))

pub read_on-append : (n : ℕ) (xs ys : List ℕ) → read_on n (xs ++ ys) ≡ read_on (read_on n xs) ys
read_on-append n [] ys = refl
read_on-append n (x ∷ xs) ys = read_on-append (n * 10 + (x - 48)) xs ys

pub front_spaces : (xs : List ℕ) → AllByRecursion Space xs → front xs ≡ []
front_spaces [] h = refl
front_spaces (x ∷ xs) h = ap (λ c. cond (is_ascii_digit c) (c ∷ front xs) []) h.0

pub plain_decimal : (p : ℕ) (bs : List ℕ) (n : ℕ) → 0 < length (front bs) → Plain p bs n → Decimal p bs n
plain_decimal p bs n some h =
    record {
      whole = front bs;
      part = [];
      pad = drop (length (front bs)) bs;
      form = front_past bs;
      whole_digits = front_digits bs;
      whole_some = some;
      part_digits = tt;
      pad_spaces = h.spaces;
      part_few = omega arith;
      count = h.count ∙ ap (λ l. read_on 0 l * 10 ^ p) (sym (append-nil (front bs))) ∙ ap (λ m. read_on 0 (front bs ++ []) * 10 ^ m) (omega arith);
    }

pub pointed_some : (ds : List ℕ) → 0 < length ds → pointed ds ≡ 46 ∷ ds
pointed_some [] h = absurd (omega arith)
pointed_some (d ∷ ds) h = refl

pub parted_decimal : (p : ℕ) (bs : List ℕ) (n : ℕ) → 0 < length (front bs) → Parted p bs n → Decimal p bs n
parted_decimal p bs n some h =
    let e = length (front bs) in
    let rest : drop (e + 1) bs ≡ behind bs ++ drop (e + 1 + length (behind bs)) bs = front_past (drop (e + 1) bs) ∙ ap (λ l. behind bs ++ l) (drop-drop (length (behind bs)) (e + 1) bs) in
    let at : drop e bs ≡ pointed (behind bs) ++ drop (e + 1 + length (behind bs)) bs =
    drop_more bs e 0 h.inside ∙ ap (λ c. c ∷ drop (e + 1) bs) h.point ∙ ap (λ l. 46 ∷ l) rest ∙ ap (λ l. l ++ drop (e + 1 + length (behind bs)) bs) (sym (pointed_some (behind bs) h.some)) in
    record {
      whole = front bs;
      part = behind bs;
      pad = drop (e + 1 + length (behind bs)) bs;
      form = front_past bs ∙ ap (λ l. front bs ++ l) at;
      whole_digits = front_digits bs;
      whole_some = some;
      part_digits = front_digits (drop (e + 1) bs);
      pad_spaces = h.spaces;
      part_few = h.few;
      count = h.count ∙ ap (λ m. m * 10 ^ (p - length (behind bs))) (sym (read_on-append 0 (front bs) (behind bs)));
    }

-- and back
-- the two ways, with the parts written out
plain_shape : (p n : ℕ) (ws pad : List ℕ) → AllByRecursion Digit ws → AllByRecursion Space pad → n ≡ read_on 0 (ws ++ []) * 10 ^ p → Plain p (ws ++ pad) n
plain_shape p n ws pad d s e =
    let f : front (ws ++ pad) ≡ ws = front-append ws pad d (front_spaces pad s) in
    record {
      spaces = subst (AllByRecursion Space) (sym (ap (λ l. drop (length l) (ws ++ pad)) f ∙ drop_at ws pad (length ws) refl)) s;
      count = e ∙ ap (λ l. read_on 0 l * 10 ^ p) (append-nil ws ∙ sym f);
    }

parted_shape : (p n : ℕ) (ws ds pad : List ℕ) → AllByRecursion Digit ws → AllByRecursion Digit ds → 0 < length ds → length ds ≤ p → AllByRecursion Space pad → n ≡ read_on 0 (ws ++ ds) * 10 ^ (p - length ds) → Parted p (ws ++ 46 ∷ (ds ++ pad)) n
parted_shape p n ws ds pad d k some few s e =
    let bs = ws ++ 46 ∷ (ds ++ pad) in
    let f : front bs ≡ ws = front-append ws (46 ∷ (ds ++ pad)) d refl in
    let at : drop (length (front bs)) bs ≡ 46 ∷ (ds ++ pad) = ap (λ l. drop (length l) bs) f ∙ drop_at ws (46 ∷ (ds ++ pad)) (length ws) refl in
    let next : drop (length (front bs) + 1) bs ≡ ds ++ pad = sym (drop-drop 1 (length (front bs)) bs) ∙ ap (drop 1) at in
    let g : behind bs ≡ ds = ap front next ∙ front-append ds pad k (front_spaces pad s) in
    let end : drop (length (front bs) + 1 + length (behind bs)) bs ≡ pad = sym (drop-drop (length (behind bs)) (length (front bs) + 1) bs) ∙ ap (λ l. drop (length (behind bs)) l) next ∙ drop_at ds pad (length (behind bs)) (ap length (sym g)) in
    record {
      inside = omega (arith, ap length f, length-append ws (46 ∷ (ds ++ pad)));
      point = sym (ap (λ i. get_or bs i 0) (omega arith)) ∙ sym (get_or-drop (length (front bs)) bs 0 0) ∙ ap (λ l. get_or l 0 0) at;
      some = omega (arith, ap length g);
      few = omega (arith, ap length g);
      spaces = subst (AllByRecursion Space) (sym end) s;
      count = e ∙ ap (λ m. m * 10 ^ (p - length ds)) (read_on-append 0 ws ds) ∙ ap (λ l. read_on (read_on 0 l) ds * 10 ^ (p - length ds)) (sym f) ∙ ap (λ l. read_on (read_on 0 (front bs)) l * 10 ^ (p - length l)) (sym g);
    }

front_parts : (ws part pad : List ℕ) → AllByRecursion Digit ws → AllByRecursion Space pad → front (ws ++ (pointed part ++ pad)) ≡ ws
front_parts ws [] pad d s = front-append ws pad d (front_spaces pad s)
front_parts ws (c ∷ cs) pad d s = front-append ws (46 ∷ ((c ∷ cs) ++ pad)) d refl

shape_parts : (p n : ℕ) (ws part pad : List ℕ) → AllByRecursion Digit ws → AllByRecursion Digit part → length part ≤ p → AllByRecursion Space pad → n ≡ read_on 0 (ws ++ part) * 10 ^ (p - length part) → Plain p (ws ++ (pointed part ++ pad)) n ⊎ Parted p (ws ++ (pointed part ++ pad)) n
shape_parts p n ws [] pad d k few s e = inl (plain_shape p n ws pad d s (e ∙ ap (λ m. read_on 0 (ws ++ []) * 10 ^ m) (omega arith)))
shape_parts p n ws (c ∷ cs) pad d k few s e = inr (parted_shape p n ws (c ∷ cs) pad d k (omega arith) few s e)

pub decimal_some : (p : ℕ) (bs : List ℕ) (n : ℕ) → Decimal p bs n → 0 < length (front bs)
decimal_some p bs n h =
    omega (arith, h.whole_some, ap length (ap front h.form ∙ front_parts h.whole h.part h.pad h.whole_digits h.pad_spaces))

-- spaces alone are no decimal
pub blank_none : (p : ℕ) (bs : List ℕ) (n : ℕ) → AllByRecursion Space bs → Decimal p bs n → ⊥
blank_none p bs n s d = let h = decimal_some p bs n d in omega (arith, ap length (front_spaces bs s))

pub decimal_shape : (p : ℕ) (bs : List ℕ) (n : ℕ) → Decimal p bs n → Plain p bs n ⊎ Parted p bs n
decimal_shape p bs n h =
    subst (λ l. Plain p l n ⊎ Parted p l n) (sym h.form) (shape_parts p n h.whole h.part h.pad h.whole_digits h.part_digits h.part_few h.pad_spaces h.count)

-- the digits behind a point that bs begins with
abbrev part_of : List ℕ → List ℕ
part_of [] = []
part_of (c ∷ cs) = cond (eqb c 46) (front cs) []

pub part_is : (bs part : List ℕ) → Part bs part → part ≡ part_of bs
part_is bs part h = part_form part h.pad h.part_digits h.pad_spaces ∙ ap part_of (sym h.form)
  where
    part_form : (ds pad : List ℕ) → AllByRecursion Digit ds → AllByRecursion Space pad → ds ≡ part_of (pointed ds ++ pad)
    part_form [] [] d s = refl
    part_form [] (x ∷ xs) d s = sym (ap (λ c. cond (eqb c 46) (front xs) []) s.0)
    part_form (c ∷ cs) pad d s = sym (front-append (c ∷ cs) pad d (front_spaces pad s))

-- bytes have one part
pub one_part : (bs part other : List ℕ) → Part bs part → Part bs other → part ≡ other
one_part bs part other a b = part_is bs part a ∙ sym (part_is bs other b)

-- bytes that begin with a point, the digits behind it, and what stands behind these
module _ (bs after part pad : List ℕ) (e : bs ≡ 46 ∷ after) (is : part ≡ front after) (form : after ≡ part ++ pad) where
  pub part_found : 0 < length part → AllByRecursion Space pad → Part bs part
  part_found some s =
      record {
        pad = pad;
        form = e ∙ ap (λ l. 46 ∷ l) form ∙ ap (λ l. l ++ pad) (sym (pointed_some part some));
        part_digits = subst (AllByRecursion Digit) (sym is) (front_digits after);
        pad_spaces = s;
      }

  pub part_only : (other : List ℕ) → Part bs other → (0 < length part) × AllByRecursion Space pad
  part_only other h = only other h.pad h.part_digits h.pad_spaces (sym e ∙ h.form)
    where
      only : (ds gap : List ℕ) → AllByRecursion Digit ds → AllByRecursion Space gap → 46 ∷ after ≡ pointed ds ++ gap → (0 < length part) × AllByRecursion Space pad
      only [] gap d s f = let t = subst (AllByRecursion Space) (sym f) s in let u = t.0 in absurd (omega arith)
      only (c ∷ cs) gap d s f =
          let g : after ≡ (c ∷ cs) ++ gap = ap (drop 1) f in
          let p : part ≡ c ∷ cs = is ∙ ap front g ∙ front-append (c ∷ cs) gap d (front_spaces gap s) in
          (omega (arith, ap length p), subst (AllByRecursion Space) (append_cancel_left (c ∷ cs) gap pad (sym g ∙ form ∙ ap (λ l. l ++ pad) p)) s)

-- a decimal cut behind its whole digits
module _ (bs whole rest : List ℕ) (is : whole ≡ front bs) (form : bs ≡ whole ++ rest) where
  pub decimal_parts : (p n : ℕ) (d : Decimal p bs n) → (0 < length whole) × Part rest d.part
  decimal_parts p n d =
      let w : d.whole ≡ whole = sym (is ∙ ap front d.form ∙ front_parts d.whole d.part d.pad d.whole_digits d.pad_spaces) in (
        omega (arith, d.whole_some, ap length w),
        record {
          pad = d.pad;
          form = append_cancel_left whole rest (pointed d.part ++ d.pad) (sym form ∙ d.form ∙ ap (λ l. l ++ (pointed d.part ++ d.pad)) w);
          part_digits = d.part_digits;
          pad_spaces = d.pad_spaces;
        },
      )

  pub parts_decimal : (p n : ℕ) (part : List ℕ) → 0 < length whole → Part rest part → length part ≤ p → n ≡ read_on (read_on 0 whole) part * 10 ^ (p - length part) → Decimal p bs n
  parts_decimal p n part some t few e =
      record {
        whole = whole;
        part = part;
        pad = t.pad;
        form = form ∙ ap (λ l. whole ++ l) t.form;
        whole_digits = subst (AllByRecursion Digit) (sym is) (front_digits bs);
        whole_some = some;
        part_digits = t.part_digits;
        pad_spaces = t.pad_spaces;
        part_few = few;
        count = e ∙ ap (λ m. m * 10 ^ (p - length part)) (sym (read_on-append 0 whole part));
      }
