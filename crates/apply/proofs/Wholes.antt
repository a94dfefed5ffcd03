-- What a snapshot does, from what its parts tell.
use Rattle.std.proofs.Common.{◌≡◌, ℕ, ◌+◌, true, false, leb, List, [], ◌∷◌, length, Some, None, Ok, Err, Option, sym, refl, ap, ◌∙◌, ap₂}
use Rattle.std.specs.List.{AllByRecursion}
use Rattle.std.proofs.lemmas.Bool.{cond_both, cond-true, cond-false, or_left, or_right, leb-true, leb-false}
use Rattle.fields.specs.Values.{Pair}
use Rattle.book.specs.declared.order.Order.{Order}
use Rattle.book.specs.declared.ladder.BookFault.TheVariants.{Full}
use Rattle.book.specs.Ladder.{Ladder}
use Rattle.book.specs.Orderly.{same_bytes}
use Rattle.venue.specs.Form as venue
use Rattle.orders.specs.Applied.{refusal}
use Rattle.snapshot.specs.declared.mark.Mark.{Mark}
use Rattle.snapshot.specs.declared.mark.Mark.TheVariants.{Lists, Puts}
use Rattle.snapshot.specs.Snapshot.{snapshot_of}
use Rattle.snapshot.specs.Repeats.{Distinct}
use Rattle.snapshot.specs.Listing.{pairs_listed, orders_put, cleared_all, room_needed, replaced}
use Rattle.snapshot.proofs.Bounds.{snapshot_parts, Under, blocks_under, marks_in_blocks}
use Rattle.apply.specs.Marks.{lists, OfListed}
use Rattle.apply.specs.Meaning.{snapshot_after}
use Rattle.apply.specs.Laws.{SnapshotDone, SnapshotSays}
use Rattle.apply.proofs.Keeping.{replaced_listed, replaced_others, replaced_ladder, replaced_length}

module _ {T : Type 0} where
  -- orders below pairs of ps only
  under_listed : (ps : List Pair) (ms : List (Mark T)) → ((d : Pair) → lists (pairs_listed ms) d ≡ true → lists ps d ≡ true)
      → (c : Option Pair) → ((d : Pair) → c ≡ Some d → lists ps d ≡ true) → Under c ms → AllByRecursion (λ (o : Order T). lists ps o.pair ≡ true) (orders_put ms)
  under_listed ps [] all c last u = tt
  under_listed ps (Lists p d ∷ ms) all c last u = under_listed ps ms (λ x h. all x (or_right _ _ h)) (Some d)
      (λ x e. let same : d ≡ x = cc in ap (lists ps) (sym same) ∙ all d (or_left _ _ (same_bytes d.bytes d.bytes refl))) u
  under_listed ps (Puts p o ∷ ms) all c last u = (last o.pair u.0, under_listed ps ms all c last u.1)

  -- the orders of a snapshot are of the pairs that it lists
  pub read_listed : (F : venue.Form T) (m : List ℕ) (ms : List (Mark T)) (e : ℕ) → snapshot_of F m ≡ Ok (ms, e) → OfListed ms
  read_listed F m ms e h =
      let x = snapshot_parts F m ms e h in
      under_listed (pairs_listed ms) ms (λ d k. k) None (λ d k. absurd cc) (blocks_under x.count.value ms (marks_in_blocks F m ms e x) None)

  -- the test of the room, by what was counted
  pub room_test : (capacity stay orders : ℕ) (ms : List (Mark T)) (l : List (Order T)) → stay ≡ length (cleared_all (pairs_listed ms) l) → orders ≡ length (orders_put ms) → leb (stay + orders) capacity ≡ leb (room_needed ms l) capacity
  room_test capacity stay orders ms l h k = ap₂ (λ a b. leb (a + b) capacity) h k

  pub after_ok : (capacity : ℕ) (ms : List (Mark T)) (l : List (Order T)) → leb (room_needed ms l) capacity ≡ true → snapshot_after capacity l ms ≡ Ok (replaced ms l)
  unfolding snapshot_after
  after_ok capacity ms l h = cond-true (leb (room_needed ms l) capacity) _ _ h

  pub after_full : (capacity : ℕ) (ms : List (Mark T)) (l : List (Order T)) → leb (room_needed ms l) capacity ≡ false → snapshot_after capacity l ms ≡ Err (refusal Full 0)
  unfolding snapshot_after
  after_full capacity ms l h = cond-false (leb (room_needed ms l) capacity) _ _ h

  -- what stands then
  pub replaced_says : (l : List (Order T)) (ms : List (Mark T)) → Ladder l → Distinct ms → OfListed ms → SnapshotDone l ms (replaced ms l)
  replaced_says l ms h d w = record {
    listed = replaced_listed l ms d w;
    others = replaced_others l ms d w;
    long = replaced_length l ms;
    is_ladder = replaced_ladder l ms d w h;
  }

  pub snapshot_says : (capacity : ℕ) (l : List (Order T)) (ms : List (Mark T)) → Ladder l → Distinct ms → OfListed ms → SnapshotSays l ms capacity (snapshot_after capacity l ms)
  unfolding snapshot_after
  snapshot_says capacity l ms h d w =
      cond_both (leb (room_needed ms l) capacity) _ _ (SnapshotSays l ms capacity)
      (λ t. (leb-true _ _ t, replaced_says l ms h d w))
      (λ f. (refl, leb-false _ _ f))
