-- Which terms a plain row gives: those whose row it is, and a fixed value for what no value may have.
use Rattle.std.specs.Prelude.{◌≡◌, ℕ, Bool, true, cond, List, replicate, refl}
use Rattle.std.proofs.lemmas.Bool.{cond_both}
use Rattle.fields.specs.Forms.{labelled}
use Rattle.fields.specs.Ranges.{between}
use Rattle.fields.specs.Values.{Quantity, Label}

-- x where it passes the test, and else the fixed value
abbrev pub kept : {X : Type 0} → (X → Bool) → X → X → X
kept test fixed x = cond (test x) x fixed

pub kept_passes : {X : Type 0} (test : X → Bool) (fixed x : X) → test fixed ≡ true → test (kept test fixed x) ≡ true
kept_passes test fixed x h = cond_both (test x) x fixed (λ y. test y ≡ true) (λ e. e) (λ _. h)

-- the quantity of a count; else 0, no restriction
unfoldable pub quantity_given : ℕ → Quantity
quantity_given n = record { count = kept (between 0 1000000000000000) 0 n; kind = record {}; ok = kept_passes (between 0 1000000000000000) 0 n refl }

-- sixteen question marks
abbrev pub unknown : List ℕ
unknown = replicate 16 63

pub unknown_labelled : labelled 16 unknown ≡ true
unfolding labelled
unknown_labelled = refl

-- the maker of these bytes; else the unknown one
unfoldable pub maker_given : List ℕ → Label 16
maker_given bs = record { bytes = kept (labelled 16) unknown bs; kind = record {}; ok = kept_passes (labelled 16) unknown bs unknown_labelled }
