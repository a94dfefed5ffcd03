use Rattle.std.proofs.Common.{◌≡◌, ◌+◌, ◌++◌, take, refl, ◌∙◌, arith, rules}
use Rattle.std.proofs.lemmas.List.{length-take-le}
use Rattle.replay.proofs.Ends.{packet_ends}
use Rattle.replay.proofs.cutter.Cutter.take.Goals as goal

pub returns : goal.returns
returns c =
    let i = c.in-Some.lf in
    let f = c.in-Some.ensures in
    let ps = c.args.piece.now in
    let h = c.turn.new.self.held in
    let g = c.fill-2.new.self in
    let long = h.long in
    let e : g.count ≡ h.count + (i + 1) = search (rules, length-take-le) in
    let k : take g.count g.bytes ≡ take 49152 (take h.count h.bytes ++ take (i + 1) ps) = search rules in (
      omega arith,
      record {
        i = i;
        within = f.0;
        lf = f.1;
        first = f.2;
        takes = c.cut.ensures.1;
        place = c.cut.ensures.0 ∙ c.turn.ensures.1;
        after = omega arith;
        fresh = refl;
        packet = simp (← c.turn.ensures.2, ← c.turn.ensures.3) (packet_ends i h.count g.count (take h.count h.bytes) ps (take g.count g.bytes) (λ m. length-take-le h.count h.bytes (omega arith)) e k);
      },
    )
