-- What each venue reads and writes are the tails of its terms.
use Rattle.std.proofs.Common.{◌≡◌, ℕ, List, length, take, drop, Some, None, Ok, Err, Option, sym, refl, ap, ◌∙◌, ap₂, arith, length-drop, take_all}
use Rattle.std.proofs.lemmas.List.{nil_from_length}
use Rattle.fields.specs.Values.{Quantity, Label}
use Rattle.fields.proofs.Codecs.{label_codec}
use Rattle.readers.specs.Values.{label_of, quantity_of}
use Rattle.readers.specs.Lawful.{label_law, quantity_law}
use Rattle.venue.specs.Form.{Form}
use Rattle.venue.specs.Basic.{basic_form}
use Rattle.venue.specs.Full.{full_form, full_reads, limits, quantity_from}
use Rattle.venue.specs.Link.{link_form, link_reads, made_by}
use Rattle.venue.specs.Tails.{BasicTail, FullTail, LinkTail, TailLaw, NoQuantity, FullRefusals, VenueLaws}
use Rattle.venue.specs.declared.terms.Limits.{Limits}
use Rattle.venue.specs.declared.terms.MadeBy.{MadeBy}

-- a tail is read, so it is not refused
not_refused : {T : Type 0} (form : Form T) (Tail : List ℕ → T → Type 0) → ((bs : List ℕ) (t : T) → Tail bs t → form.reads bs ≡ Ok t)
    → (bs : List ℕ) (k : ℕ) → form.reads bs ≡ Err k → (t : T) → Tail bs t → ⊥
not_refused form Tail complete bs k e t h = cc (e, complete bs t h)

basic_law : TailLaw basic_form BasicTail
basic_law = record {
  long = λ bs t h. ap length h;
  sound = λ bs t l e. nil_from_length bs l;
  complete = λ bs t h. refl;
  refused = not_refused basic_form BasicTail (λ bs t h. refl);
  written = λ t. refl;
}

made_is : (m : Option (Label 16)) (t : MadeBy) → made_by m ≡ Ok t → m ≡ Some t.maker
made_is None t e = cc
made_is (Some m) t e = let z : record { maker = m } ≡ t = cc in ap (λ s. Some s.maker) z

made_at : (m : Option (Label 16)) (k : ℕ) → made_by m ≡ Err k → k ≡ 0
made_at None k e = cc
made_at (Some m) k e = cc

link_sound : (bs : List ℕ) (t : MadeBy) → link_reads bs ≡ Ok t → LinkTail bs t
link_sound bs t e = (label_law 16).sound bs t.maker (made_is (label_of 16 bs) t e)

link_complete : (bs : List ℕ) (t : MadeBy) → LinkTail bs t → link_reads bs ≡ Ok t
link_complete bs t h = ap made_by ((label_law 16).complete bs t.maker h)

link_at : (bs : List ℕ) (k : ℕ) → link_reads bs ≡ Err k → k ≡ 0
link_at bs k e = made_at (label_of 16 bs) k e

link_law : TailLaw link_form LinkTail
link_law = record {
  long = λ bs t h. (label_law 16).long bs t.maker h;
  sound = λ bs t l e. link_sound bs t e;
  complete = link_complete;
  refused = not_refused link_form LinkTail link_complete;
  written = λ t. (label_codec 16).back t.maker;
}

-- the second field ends the tail
last_field : (bs : List ℕ) → length bs ≡ 32 → take 16 (drop 16 bs) ≡ drop 16 bs
last_field bs l = take_all 16 (drop 16 bs) (omega (arith, length-drop 16 bs))

limits_are : (min lot : Option Quantity) (t : Limits) → limits min lot ≡ Ok t → (min ≡ Some t.min) × (lot ≡ Some t.lot)
limits_are None lot t e = cc
limits_are (Some min) None t e = cc
limits_are (Some min) (Some lot) t e =
    let z : record { min = min; lot = lot } ≡ t = cc in
    (ap (λ s. Some s.min) z, ap (λ s. Some s.lot) z)

limits_0 : (min lot : Option Quantity) → limits min lot ≡ Err 0 → min ≡ None
limits_0 None lot e = refl
limits_0 (Some min) None e = cc
limits_0 (Some min) (Some lot) e = cc

limits_16 : (min lot : Option Quantity) → limits min lot ≡ Err 16 → ((q : Quantity) × (min ≡ Some q)) × (lot ≡ None)
limits_16 None lot e = cc
limits_16 (Some min) None e = ((min, refl), refl)
limits_16 (Some min) (Some lot) e = cc

-- bytes that read as none are no quantity's, and the other way round
none_is : (bs : List ℕ) → quantity_of bs ≡ None → NoQuantity bs
none_is bs e q h = cc (e, quantity_law.complete bs q h)

no_some : {A : Type 0} (o : Option A) → ((x : A) → o ≡ Some x → ⊥) → o ≡ None
no_some None h = refl
no_some (Some x) h = absurd (h x refl)

is_none : (bs : List ℕ) → NoQuantity bs → quantity_of bs ≡ None
is_none bs h = no_some (quantity_of bs) (λ q e. h q (quantity_law.sound bs q e))

full_wide : (bs : List ℕ) (t : Limits) → FullTail bs t → length bs ≡ 32
full_wide bs t h = omega (arith, length-drop 16 bs, quantity_law.long _ t.lot h.1)

full_sound : (bs : List ℕ) (t : Limits) → length bs ≡ 32 → full_reads bs ≡ Ok t → FullTail bs t
full_sound bs t l e =
    let r = limits_are (quantity_from 0 bs) (quantity_from 16 bs) t e in
    (quantity_law.sound _ t.min r.0, quantity_law.sound _ t.lot (ap quantity_of (sym (last_field bs l)) ∙ r.1))

full_complete : (bs : List ℕ) (t : Limits) → FullTail bs t → full_reads bs ≡ Ok t
full_complete bs t h =
    ap₂ limits
    (quantity_law.complete _ t.min h.0)
    (ap quantity_of (last_field bs (full_wide bs t h)) ∙ quantity_law.complete _ t.lot h.1)

full_law : TailLaw full_form FullTail
full_law = record {
  long = full_wide;
  sound = full_sound;
  complete = full_complete;
  refused = not_refused full_form FullTail full_complete;
  written = λ t. full_sound (full_form.writes t) t (full_form.written_long t) (full_form.reads_back t);
}

full_refusals : FullRefusals
full_refusals = record {
  at_min = λ bs l e. none_is (take 16 bs) (limits_0 (quantity_from 0 bs) (quantity_from 16 bs) e);
  min_at = λ bs l h. ap (λ min. limits min (quantity_from 16 bs)) (is_none (take 16 bs) h);
  at_lot = λ bs l e.
      let r = limits_16 (quantity_from 0 bs) (quantity_from 16 bs) e in
      ((r.0.0, quantity_law.sound _ _ r.0.1), none_is (drop 16 bs) (ap quantity_of (sym (last_field bs l)) ∙ r.1));
  lot_at = λ bs q l h n.
      ap₂ limits (quantity_law.complete _ q h) (ap quantity_of (last_field bs l) ∙ is_none (drop 16 bs) n);
}

pub venue_laws : VenueLaws
venue_laws = record { basic = basic_law; full = full_law; full_refusals = full_refusals; link = link_law; link_refused = link_at }
