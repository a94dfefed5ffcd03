-- What the bytes of a decimal's field are found to be.
use Rattle.std.proofs.Common.{◌≡◌, ℕ, Bool, true, List, Some, None, Option, Result, sym, refl, subst, ◌∙◌, inl, inr, ⊎_elim}
use Rattle.std.specs.Option.{ok_or, option_or}
use Rattle.digits.specs.Calls.{Only}
use Rattle.digits.specs.Numerals.{DecimalField}
use Rattle.digits.proofs.Counts.{one_count}
use Rattle.digits.proofs.Shapes.{blank_none}
use Rattle.fields.specs.declared.fault.Fault.{Fault}
use Rattle.fields.specs.declared.fault.Fault.TheVariants.{NotInForm}
use Rattle.fields.specs.Calls.{Found, Makes, Reads}
use Rattle.fields.specs.Decimals.{Blank, CountText}

-- what is found is read, and 43 where nothing is
found_read : {V X : Type 0} (Field : List ℕ → X → Type 0) (value : V → X) (bs : List ℕ) (o : Option V) → Found Field value bs o → Reads Field value bs (ok_or o NotInForm)
found_read Field value bs (Some v) h = h
found_read Field value bs None h = (refl, h)

pub found_reads : {V X : Type 0} (Field : List ℕ → X → Type 0) (value : V → X) (bs : List ℕ) (o : Option V) (r : Result V Fault) → r ≡ ok_or o NotInForm → Found Field value bs o → Reads Field value bs r
found_reads Field value bs o r e h = subst (Reads Field value bs) (sym e) (found_read Field value bs o h)

-- nothing is found where they are no value's
pub none_found : {V X : Type 0} (Field : List ℕ → X → Type 0) (value : V → X) (bs : List ℕ) (o : Option V) → o ≡ None → ((x : X) → Field bs x → ⊥) → Found Field value bs o
none_found Field value bs o e none = subst (Found Field value bs) (sym e) none

-- bytes write one count at most
pub one_text : (width places : ℕ) (bs : List ℕ) (m n : ℕ) → CountText width places bs m → CountText width places bs n → m ≡ n
one_text width places bs m n a b =
    ⊎_elim
    (λ p. ⊎_elim (λ q. one_count places bs m n p.decimal q.decimal) (λ q. absurd (blank_none places bs m q.0.1 p.decimal)) b)
    (λ p. ⊎_elim (λ q. absurd (blank_none places bs n p.0.1 q.decimal)) (λ q. p.1 ∙ sym q.1) b)
    a

-- bytes write the count 0 as spaces, or what they write as a decimal
either : (width places : ℕ) (bs : List ℕ) (a b : Option ℕ) → Only (λ n. Blank width bs × (n ≡ 0)) a → Only (DecimalField width places bs) b → Only (CountText width places bs) (option_or a b)
either width places bs (Some n) b h g = (inr h.0, λ m t. one_text width places bs m n t (inr h.0))
either width places bs None (Some n) h g = (inl g.0, λ m t. one_text width places bs m n t (inl g.0))
either width places bs None None h g = λ m t. ⊎_elim (g m) (h m) t

pub either_count : (width places w v p : ℕ) (bs : List ℕ) (a b o : Option ℕ) → o ≡ option_or a b → w ≡ width → v ≡ width → p ≡ places
    → Only (λ n. Blank w bs × (n ≡ 0)) a → Only (DecimalField v p bs) b → Only (CountText width places bs) o
either_count width places w v p bs a b o e ew ev ep h g =
    subst (Only (CountText width places bs)) (sym e)
    (either width places bs a b (subst (λ k. Only (λ n. Blank k bs × (n ≡ 0)) a) ew h)
    (subst (λ k. Only (DecimalField k places bs) b) ev (subst (λ k. Only (DecimalField v k bs) b) ep g)))

-- the value of the count that they write
module _ {V : Type 0} (width places : ℕ) (may : ℕ → Bool) (Field : List ℕ → ℕ → Type 0) (value : V → ℕ) (ok : (v : V) → may (value v) ≡ true)
    (to : (bs : List ℕ) (n : ℕ) → Field bs n → CountText width places bs n × (may n ≡ true))
    (from : (bs : List ℕ) (n : ℕ) → CountText width places bs n → may n ≡ true → Field bs n)
    (bs : List ℕ) where
  pub count_found : (n : ℕ) (o : Option V) → Only (CountText width places bs) (Some n) → Makes (λ m. may m ≡ true) value n o → Found Field value bs o
  count_found n (Some v) only made = from bs (value v) (subst (CountText width places bs) (sym made) only.0) (ok v)
  count_found n None only none = λ m f. let t = to bs m f in none (subst (λ k. may k ≡ true) (only.1 m t.0) t.1)

  pub no_count_found : (o : Option V) → o ≡ None → Only (CountText width places bs) None → Found Field value bs o
  no_count_found o e none = none_found Field value bs o e (λ m f. none m (to bs m f).0)
