-- Which bytes are the tail of which terms, at each venue; and what is proved of it.
use Rattle.std.specs.Prelude.{◌≡◌, ℕ, List, [], length, take, drop, Ok, Err}
use Rattle.fields.specs.Values.{Quantity}
use Rattle.readers.specs.Values.{LabelIs, QuantityIs}
use Rattle.venue.specs.Form.{Form}
use Rattle.venue.specs.Basic.{basic_form}
use Rattle.venue.specs.Full.{full_form}
use Rattle.venue.specs.Link.{link_form}
use Rattle.venue.specs.declared.terms.NoTerms.{NoTerms}
use Rattle.venue.specs.declared.terms.Limits.{Limits}
use Rattle.venue.specs.declared.terms.MadeBy.{MadeBy}

-- no bytes
abbrev pub BasicTail : List ℕ → NoTerms → Type 0
BasicTail bs t = bs ≡ []

-- sixteen bytes of the minimum quantity, then those of the lot size
abbrev pub FullTail : List ℕ → Limits → Type 0
FullTail bs t = QuantityIs (take 16 bs) t.min × QuantityIs (drop 16 bs) t.lot

-- the maker
abbrev pub LinkTail : List ℕ → MadeBy → Type 0
LinkTail bs t = LabelIs 16 bs t.maker

-- What a venue reads and writes are the tails of its terms.
pub record TailLaw {T : Type 0} (form : Form T) (Tail : List ℕ → T → Type 0) : Type 0 where
  pub long : (bs : List ℕ) (t : T) → Tail bs t → length bs ≡ form.width
  -- bytes are read as the terms whose tail they are
  pub sound : (bs : List ℕ) (t : T) → length bs ≡ form.width → form.reads bs ≡ Ok t → Tail bs t
  pub complete : (bs : List ℕ) (t : T) → Tail bs t → form.reads bs ≡ Ok t
  -- and refused only where they are the tail of none
  pub refused : (bs : List ℕ) (k : ℕ) → form.reads bs ≡ Err k → (t : T) → Tail bs t → ⊥
  -- what is written is the tail of the terms
  pub written : (t : T) → Tail (form.writes t) t

-- bytes that are no quantity's
abbrev pub NoQuantity : List ℕ → Type 0
NoQuantity bs = (q : Quantity) → QuantityIs bs q → ⊥

-- The Full ECN names the first of its two fields that is not in form.
pub record FullRefusals : Type 0 where
  pub at_min : (bs : List ℕ) → length bs ≡ 32 → full_form.reads bs ≡ Err 0 → NoQuantity (take 16 bs)
  pub min_at : (bs : List ℕ) → length bs ≡ 32 → NoQuantity (take 16 bs) → full_form.reads bs ≡ Err 0
  pub at_lot : (bs : List ℕ) → length bs ≡ 32 → full_form.reads bs ≡ Err 16 → ((q : Quantity) × QuantityIs (take 16 bs) q) × NoQuantity (drop 16 bs)
  pub lot_at : (bs : List ℕ) (q : Quantity) → length bs ≡ 32 → QuantityIs (take 16 bs) q → NoQuantity (drop 16 bs) → full_form.reads bs ≡ Err 16

pub record VenueLaws : Type 0 where
  pub basic : TailLaw basic_form BasicTail
  pub full : TailLaw full_form FullTail
  pub full_refusals : FullRefusals
  pub link : TailLaw link_form LinkTail
  -- the maker is the only field, at 0
  pub link_refused : (bs : List ℕ) (k : ℕ) → link_form.reads bs ≡ Err k → k ≡ 0
