-- A value made again from its row is that value, and a fixed one where no value has the row.
use Rattle.std.specs.Prelude.{◌≡◌, ℕ, Bool, true, List, ◌≢◌}
use Rattle.std.proofs.Common.{sym, subst, ◌∙◌, ⊎_elim}
use Rattle.std.proofs.lemmas.Bool.{cases_Bool, cond-true, cond-false}
use Rattle.fields.specs.Forms.{labelled}
use Rattle.fields.specs.Ranges.{between, QuantityCount}
use Rattle.fields.specs.Values.{Quantity, Label}
use Rattle.fields.proofs.Sames.{quantity_same, label_same}
use Rattle.venue.specs.Rows.{kept, unknown, quantity_given, maker_given}

is_kept : {X : Type 0} (test : X → Bool) (fixed x : X) → test x ≡ true → x ≡ kept test fixed x
is_kept test fixed x h = sym (cond-true (test x) x fixed h)

is_fixed : {X : Type 0} (test : X → Bool) (fixed x : X) → (test x ≢ true) → fixed ≡ kept test fixed x
is_fixed test fixed x h = sym (cond-false (test x) x fixed (⊎_elim (λ t. absurd (h t)) (λ f. f) (cases_Bool (test x))))

pub quantity_given_back : (q : Quantity) (n : ℕ) → q.count ≡ n → q ≡ quantity_given n
unfolding quantity_given
quantity_given_back q n e = quantity_same q _ (e ∙ is_kept (between 0 1000000000000000) 0 n (subst QuantityCount e q.ok))

pub quantity_fixed : (q : Quantity) (n : ℕ) → q.count ≡ 0 → (QuantityCount n → ⊥) → q ≡ quantity_given n
unfolding quantity_given
quantity_fixed q n e h = quantity_same q _ (e ∙ is_fixed (between 0 1000000000000000) 0 n h)

pub maker_given_back : (m : Label 16) (bs : List ℕ) → m.bytes ≡ bs → m ≡ maker_given bs
unfolding maker_given
maker_given_back m bs e = label_same 16 m _ (e ∙ is_kept (labelled 16) unknown bs (subst (λ x. labelled 16 x ≡ true) e m.ok))

pub maker_fixed : (m : Label 16) (bs : List ℕ) → m.bytes ≡ unknown → (labelled 16 bs ≢ true) → m ≡ maker_given bs
unfolding maker_given
maker_fixed m bs e h = label_same 16 m _ (e ∙ is_fixed (labelled 16) unknown bs h)
