-- Fields that may be blank.
use Rattle.std.specs.Prelude.{◌≡◌, ℕ, ◌<◌, List, [], ◌∷◌, length, Some, None, Decides, Option, ◌≢◌, slice_index}
use Rattle.std.proofs.Math.Path.{sym, ap}
use Rattle.std.proofs.Common.{◌∙◌, arith}
use Rattle.std.proofs.Math.Logic.{⊎_elim}
use Rattle.std.specs.Option.{option_map}
use Rattle.std.specs.List.{AllByRecursion}
use Rattle.std.proofs.lemmas.Bool.{cond-true, cond-false, cases_Bool}
use Rattle.std.proofs.lemmas.Bool.Decides.{Decides-and, Decides-eqb}
use Rattle.digits.specs.Bytes.{Space}
use Rattle.digits.proofs.Shapes.{blank_none}
use Rattle.book.specs.declared.order.Side.TheVariants.{Bid, Offer}
use Rattle.fields.specs.declared.texts.TextKind as text_kind
use Rattle.fields.specs.Scripts.{label_laws, pair_laws, time_laws}
use Rattle.fields.specs.Texts.{TextLaws}
use Rattle.readers.specs.Values.{blank, optional_of, TextIs, PairIs, LabelIs, TimeIs, PriceIs, AmountIs, IntegerIs, SideIs, OptionalIs}
use Rattle.readers.specs.Laws.{FieldLaw, BlankFree}
use Rattle.readers.specs.Exacts.{spaced_decides, blank_whole}

pub blank_decides : (w : ℕ) (bs : List ℕ) → Decides (blank w bs) ((length bs ≡ w) × AllByRecursion Space bs)
blank_decides w bs = Decides-and _ _ (Decides-eqb (length bs) w) (spaced_decides bs)

-- Which fields are never all spaces: those that have a first byte, which is no space.
first_space : (bs : List ℕ) → AllByRecursion Space bs → 0 < length bs → slice_index bs 0 ≡ 32
first_space [] s l = absurd (omega arith)
first_space (c ∷ cs) s l = s.0

module _ {K : Type 0} (n : ℕ) (k : text_kind.Ghosts K n) (laws : TextLaws n k.form k.test) where
  pub text_filled : BlankFree (TextIs n k)
  text_filled bs v f s = laws.filled bs f.0 s

pub pair_filled : BlankFree PairIs
pair_filled = text_filled 7 _ pair_laws

pub label_filled : (n : ℕ) → BlankFree (LabelIs n)
label_filled n = text_filled n _ (label_laws n)

pub time_filled : BlankFree TimeIs
time_filled = text_filled 9 _ time_laws

pub price_filled : BlankFree PriceIs
price_filled bs v f s = blank_none 5 bs v.count s f.0.decimal

pub amount_filled : BlankFree AmountIs
amount_filled bs v f s = blank_none 2 bs v.count s f.0.decimal

pub integer_filled : (w : ℕ) → BlankFree (IntegerIs w)
integer_filled w bs v f s = blank_whole bs v.value f.1 s

pub side_filled : BlankFree SideIs
side_filled bs Bid h s = let e = first_space bs s (omega (arith, ap length h)) in omega (arith, ap (λ l. slice_index l 0) h)
side_filled bs Offer h s = let e = first_space bs s (omega (arith, ap length h)) in omega (arith, ap (λ l. slice_index l 0) h)

-- A field that is never all spaces, and may be left blank.
mapped_none : {V : Type 0} (o : Option V) → option_map Some o ≢ Some None
mapped_none None e = let z : ◌≡◌ {A = ℕ} 0 1 = cc in omega arith
mapped_none (Some x) e = let z : ◌≡◌ {A = ℕ} 0 1 = cc in omega arith

mapped_some : {V : Type 0} (o : Option V) (v : V) → option_map Some o ≡ Some (Some v) → o ≡ Some v
mapped_some None v e = let z : ◌≡◌ {A = ℕ} 0 1 = cc in absurd (omega arith)
mapped_some (Some x) v e = cc

module _ {V : Type 0} (w : ℕ) (reads : List ℕ → Option V) where
  -- what is read of spaces, and of other bytes
  pub blank_read : (bs : List ℕ) → (length bs ≡ w) × AllByRecursion Space bs → Some None ≡ optional_of w reads bs
  unfolding optional_of
  blank_read bs h = sym (cond-true _ _ _ ((blank_decides w bs).1 h))

  pub filled_read : (bs : List ℕ) → ((length bs ≡ w) × AllByRecursion Space bs → ⊥) → option_map Some (reads bs) ≡ optional_of w reads bs
  unfolding optional_of
  filled_read bs h = ⊎_elim (λ t. absurd (h ((blank_decides w bs).0 t))) (λ f. sym (cond-false _ _ _ f)) (cases_Bool (blank w bs))

module _ {V : Type 0} (w : ℕ) (Is : List ℕ → V → Type 0) (reads : List ℕ → Option V) where
  optional_sound : FieldLaw w Is reads → (bs : List ℕ) (o : Option V) → optional_of w reads bs ≡ Some o → OptionalIs w Is bs o
  unfolding optional_of
  optional_sound law bs None e =
      ⊎_elim (blank_decides w bs).0 (λ f. absurd (mapped_none (reads bs) (sym (cond-false _ _ _ f) ∙ e))) (cases_Bool (blank w bs))
  optional_sound law bs (Some v) e =
      ⊎_elim
      (λ t. let z : ◌≡◌ {A = Option (Option V)} (Some None) (Some (Some v)) = sym (cond-true _ _ _ t) ∙ e in let y : ◌≡◌ {A = ℕ} 0 1 = cc in absurd (omega arith))
      (λ f. law.sound bs v (mapped_some (reads bs) v (sym (cond-false _ _ _ f) ∙ e))) (cases_Bool (blank w bs))

  optional_complete : BlankFree Is → FieldLaw w Is reads → (bs : List ℕ) (o : Option V) → OptionalIs w Is bs o → optional_of w reads bs ≡ Some o
  unfolding optional_of
  optional_complete free law bs None h = cond-true _ _ _ ((blank_decides w bs).1 h)
  optional_complete free law bs (Some v) h =
      ⊎_elim (λ t. absurd (free bs v h ((blank_decides w bs).0 t).1)) (λ f. cond-false _ _ _ f ∙ ap (option_map Some) (law.complete bs v h)) (cases_Bool (blank w bs))

  optional_long : FieldLaw w Is reads → (bs : List ℕ) (o : Option V) → OptionalIs w Is bs o → length bs ≡ w
  optional_long law bs None h = h.0
  optional_long law bs (Some v) h = law.long bs v h

  pub optional_law : BlankFree Is → FieldLaw w Is reads → FieldLaw w (OptionalIs w Is) (optional_of w reads)
  optional_law free law = record { sound = optional_sound law; complete = optional_complete free law; long = optional_long law }
