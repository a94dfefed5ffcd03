-- A day's reports and ladder are those that the bytes taken mean, however they were cut.
use Rattle.std.proofs.Common.{◌≡◌, ℕ, ◌+◌, ◌≤◌, true, false, cond, eqb, leb, List, [], ◌∷◌, ◌++◌, length, take, None, Option, sym, refl, ap, ◌∙◌, ap₂, append_assoc, append-nil, add-zero, arith, length-append}
use Rattle.std.proofs.Math.Seq.{take-append-add}
use Rattle.std.proofs.lemmas.Bool.{cond_both, cond-true, cond-false, leb-true, le-leb}
use Rattle.book.specs.declared.order.Order.{Order}
use Rattle.days.specs.declared.state.State.{State}
use Rattle.days.specs.declared.events.Report.{Report}
use Rattle.days.specs.Model.{Rules, Lawful, Point, NoLF, worked, by_letter, packets, left, after, reports, reported, next, start, reports_of, point_of}
use Rattle.days.specs.Day.{Day, begins, takes, writes, asks, Took, beyond, no_end, an_end, Session, kept, hold, held_more, finish, Answer, too_many, limit}
use Rattle.days.specs.Theorem.{MeansItsStream, DaysAgree, TakesWithinLimit}

pub packets_++ : (acc xs ys : List ℕ) → packets acc (xs ++ ys) ≡ packets acc xs ++ packets (left acc xs) ys
packets_++ acc [] ys = refl
packets_++ acc (x ∷ xs) ys =
    elim (eqb x 10) as (λ b. cond b (acc ∷ packets [] (xs ++ ys)) (packets (acc ++ (x ∷ [])) (xs ++ ys))
    ≡ cond b (acc ∷ packets [] xs) (packets (acc ++ (x ∷ [])) xs) ++ packets (cond b (left [] xs) (left (acc ++ (x ∷ [])) xs)) ys)
    [ true ↦ ap (λ t. acc ∷ t) (packets_++ [] xs ys) | false ↦ packets_++ (acc ++ (x ∷ [])) xs ys ]

pub left_++ : (acc xs ys : List ℕ) → left acc (xs ++ ys) ≡ left (left acc xs) ys
left_++ acc [] ys = refl
left_++ acc (x ∷ xs) ys =
    elim (eqb x 10) as (λ b. cond b (left [] (xs ++ ys)) (left (acc ++ (x ∷ [])) (xs ++ ys))
    ≡ left (cond b (left [] xs) (left (acc ++ (x ∷ [])) xs)) ys)
    [ true ↦ left_++ [] xs ys | false ↦ left_++ (acc ++ (x ∷ [])) xs ys ]

pub packets_none : (acc xs : List ℕ) → NoLF xs → packets acc xs ≡ []
packets_none acc [] h = refl
packets_none acc (x ∷ xs) h = cond-false (eqb x 10) _ _ h.0 ∙ packets_none (acc ++ (x ∷ [])) xs h.1

pub left_none : (acc xs : List ℕ) → NoLF xs → left acc xs ≡ acc ++ xs
left_none acc [] h = sym (append-nil acc)
left_none acc (x ∷ xs) h = cond-false (eqb x 10) _ _ h.0 ∙ left_none (acc ++ (x ∷ [])) xs h.1 ∙ append_assoc acc (x ∷ []) xs

-- one packet's bytes and its LF
pub packets_one : (acc xs : List ℕ) → NoLF xs → packets acc (xs ++ (10 ∷ [])) ≡ (acc ++ xs) ∷ []
packets_one acc xs h =
    packets_++ acc xs (10 ∷ []) ∙ ap (λ t. t ++ packets (left acc xs) (10 ∷ [])) (packets_none acc xs h) ∙ ap (λ t. t ∷ []) (left_none acc xs h)

pub left_one : (acc xs : List ℕ) → left acc (xs ++ (10 ∷ [])) ≡ []
left_one acc xs = left_++ acc xs (10 ∷ [])

pub hold_more : (bs cs : List ℕ) → held_more (hold bs) cs ≡ hold (bs ++ cs)
hold_more bs cs =
    cond_both (leb 49152 (length bs)) _ _ (λ h. held_more h cs ≡ hold (bs ++ cs))
    (λ e. let h : 49152 ≤ length bs = leb-true 49152 (length bs) e in
    sym (cond-true (leb 49152 (length (bs ++ cs))) _ _ (le-leb 49152 _ (simp length-append (omega arith)))))
    (λ _. refl)

module _ {T : Type 0} (v : Rules T) (capacity : ℕ) where
  pub after_++ : (at : Point T) (ps qs : List (List ℕ)) → after v capacity at (ps ++ qs) ≡ after v capacity (after v capacity at ps) qs
  after_++ at [] qs = refl
  after_++ at (p ∷ ps) qs = after_++ (next v capacity at p) ps qs

  pub reports_++ : (at : Point T) (ps qs : List (List ℕ)) → reports v capacity at (ps ++ qs) ≡ reports v capacity at ps ++ reports v capacity (after v capacity at ps) qs
  reports_++ at [] qs = refl
  reports_++ at (p ∷ ps) qs = ap (λ t. reported v capacity at p ∷ t) (reports_++ (next v capacity at p) ps qs)

  -- what a day's session and ladder are, after the bytes bs
  pub record Follows (bs : List ℕ) (rs : List Report) (s : Session) (l : List (Order T)) : Type 0 where
    pub reports_are : rs ≡ reports_of v capacity bs
    pub ladder_is : l ≡ (point_of v capacity bs).ladder
    pub state_is : s.state ≡ (point_of v capacity bs).state
    pub place_is : s.place ≡ (point_of v capacity bs).place
    pub taken_is : s.taken ≡ length bs
    pub sum_is : (point_of v capacity bs).place + length (left [] bs) ≡ length bs
    pub held_is : s.held ≡ hold (left [] bs)

  pub after_one : (at : Point T) (ps : List (List ℕ)) (q : List ℕ) → after v capacity at (ps ++ (q ∷ [])) ≡ next v capacity (after v capacity at ps) q
  after_one at ps q = after_++ at ps (q ∷ [])

  more_step : (bs piece : List ℕ) (rs : List Report) (s : Session) (l : List (Order T)) → NoLF piece → Follows bs rs s l →
      Follows (bs ++ piece) (rs ++ [])
      (record { state = s.state; taken = s.taken + length piece; place = s.place; held = held_more s.held piece; ended = None }) l
  more_step bs piece rs s l h f =
      let same : packets [] (bs ++ piece) ≡ packets [] bs =
      packets_++ [] bs piece ∙ ap (λ t. packets [] bs ++ t) (packets_none (left [] bs) piece h) ∙ append-nil (packets [] bs) in
      let tail : left [] (bs ++ piece) ≡ left [] bs ++ piece = left_++ [] bs piece ∙ left_none (left [] bs) piece h in
      record {
        reports_are = append-nil rs ∙ f.reports_are ∙ ap (reports v capacity start) (sym same);
        ladder_is = f.ladder_is ∙ ap (λ ps. (after v capacity start ps).ladder) (sym same);
        state_is = f.state_is ∙ ap (λ ps. (after v capacity start ps).state) (sym same);
        place_is = f.place_is ∙ ap (λ ps. (after v capacity start ps).place) (sym same);
        taken_is = ap (λ n. n + length piece) f.taken_is ∙ sym (length-append bs piece);
        sum_is = rw (same, tail, length-append, length-append) (omega (arith, f.sum_is));
        held_is = ap (λ h. held_more h piece) f.held_is ∙ hold_more (left [] bs) piece ∙ ap hold (sym tail);
      }

  module _ (law : Lawful v) where
    pub finish_hold : (s : State) (l : List (Order T)) (bs : List ℕ) → finish v capacity s l (hold bs) ≡ worked v capacity s l bs
    finish_hold s l bs =
        cond_both (leb 49152 (length bs)) _ _ (λ h. finish v capacity s l h ≡ worked v capacity s l bs)
        (λ e. sym (ap (by_letter v capacity s l bs) (law.long bs (leb-true 49152 (length bs) e))))
        (λ _. refl)

    end_step : (bs front : List ℕ) (rs : List Report) (s : Session) (l : List (Order T)) (e : Option (List ℕ)) → NoLF front → Follows bs rs s l →
        Follows (bs ++ (front ++ (10 ∷ [])))
        (rs ++ ((record { place = s.place; outcome = (finish v capacity s.state l (held_more s.held front)).outcome }) ∷ []))
        (record {
          state = (finish v capacity s.state l (held_more s.held front)).state;
          taken = s.taken + (length front + 1);
          place = s.taken + (length front + 1);
          held = kept [];
          ended = e;
        })
        (finish v capacity s.state l (held_more s.held front)).ladder
    end_step bs front rs s l e h f =
        let q : List ℕ = left [] bs ++ front in
        let at : Point T = point_of v capacity bs in
        let cut : packets [] (bs ++ (front ++ (10 ∷ []))) ≡ packets [] bs ++ (q ∷ []) =
        packets_++ [] bs (front ++ (10 ∷ [])) ∙ ap (λ t. packets [] bs ++ t) (packets_one (left [] bs) front h) in
        let tail : left [] (bs ++ (front ++ (10 ∷ []))) ≡ [] = left_++ [] bs (front ++ (10 ∷ [])) ∙ left_one (left [] bs) front in
        let to : after v capacity start (packets [] (bs ++ (front ++ (10 ∷ [])))) ≡ next v capacity at q =
        ap (after v capacity start) cut ∙ after_one start (packets [] bs) q in
        let did : finish v capacity s.state l (held_more s.held front) ≡ worked v capacity at.state at.ladder q =
        ap (λ x. finish v capacity x l (held_more s.held front)) f.state_is
        ∙ ap (λ x. finish v capacity at.state x (held_more s.held front)) f.ladder_is
        ∙ ap (λ x. finish v capacity at.state at.ladder (held_more x front)) f.held_is
        ∙ ap (finish v capacity at.state at.ladder) (hold_more (left [] bs) front)
        ∙ finish_hold at.state at.ladder q in
        let n : length (bs ++ (front ++ (10 ∷ []))) ≡ length bs + (length front + 1) = simp (length-append, length-append) in
        let m : at.place + (length q + 1) ≡ length bs + (length front + 1) = simp length-append (omega (arith, f.sum_is)) in
        record {
          reports_are =
              ap₂ (λ a b. rs ++ ((record { place = a; outcome = b.outcome }) ∷ [])) f.place_is did
              ∙ ap (λ t. t ++ (reported v capacity at q ∷ [])) f.reports_are
              ∙ sym (ap (reports v capacity start) cut ∙ reports_++ start (packets [] bs) (q ∷ []));
          ladder_is = ap (λ w. w.ladder) did ∙ ap (λ w. w.ladder) (sym to);
          state_is = ap (λ w. w.state) did ∙ ap (λ w. w.state) (sym to);
          place_is = ap (λ k. k + (length front + 1)) f.taken_is ∙ sym m ∙ ap (λ w. w.place) (sym to);
          taken_is = ap (λ k. k + (length front + 1)) f.taken_is ∙ sym n;
          sum_is = ap₂ (λ w t. w.place + length t) to tail ∙ simp add-zero m ∙ sym n;
          held_is = ap hold (sym tail);
        }

    pub follows : {bs : List ℕ} {rs : List Report} {s : Session} {l : List (Order T)} → Day v capacity bs rs s l → Follows bs rs s l
    follows begins =
        record { reports_are = refl; ladder_is = refl; state_is = refl; place_is = refl; taken_is = refl; sum_is = refl; held_is = refl }
    follows (takes {bs} {rs} {s} {l} {piece} d (beyond h)) = rw (append-nil, append-nil) (follows d)
    follows (takes {bs} {rs} {s} {l} {piece} d (no_end h nl)) = more_step bs piece rs s l nl (follows d)
    follows (takes {bs} {rs} {s} {l} {piece} d (an_end h front rest e nl)) =
        let w : take (length front + 1) piece ≡ front ++ (10 ∷ []) = ap (take (length front + 1)) e ∙ take-append-add front (10 ∷ rest) 1 in
        rw w (end_step bs front rs s l _ nl (follows d))
    follows (writes d w) = follows d
    follows (asks d q a) = follows d

refused_only : {T : Type 0} (v : Rules T) (capacity : ℕ) (s : Session) (l : List (Order T)) (piece : List ℕ) (a : Answer) (s' : Session) (l' : List (Order T)) → Took v capacity s l piece a s' l' →
    s.taken + length piece ≤ limit → a ≡ too_many → ⊥
refused_only v capacity s l piece a s' l' (beyond h) le e = omega arith
refused_only v capacity s l piece a s' l' (no_end h nl) le e = cc
refused_only v capacity s l piece a s' l' (an_end h front rest p nl) le e = cc

module _ {T : Type 0} (v : Rules T) (law : Lawful v) where
  pub means_its_stream : MeansItsStream v
  means_its_stream capacity bs rs s l d = ((follows v capacity law d).reports_are, (follows v capacity law d).ladder_is)

  pub days_agree : DaysAgree v
  days_agree capacity bs rs rs' s s' l l' d e =
      ((follows v capacity law d).reports_are ∙ sym (follows v capacity law e).reports_are, (follows v capacity law d).ladder_is ∙ sym (follows v capacity law e).ladder_is)

  pub takes_within_limit : TakesWithinLimit v
  takes_within_limit capacity bs rs s l d piece a s' l' t le e =
      refused_only v capacity s l piece a s' l' t (omega (arith, (follows v capacity law d).taken_is)) e
