use Rattle.std.proofs.Common.{rules, tests, arith, ap, ◌∙◌}
use Rattle.std.specs.Slice.Iter.{chunks_exact_size, chunks_exact_rest}
use Rattle.std.proofs.lemmas.Slice.{between_to_end}
use Rattle.fields.specs.Forms.{Paired}
use Rattle.packet.proofs.Pairs.{first_bad}
use Rattle.packet.proofs.directories.first_bad_pair.Goals as goal

pub returns : goal.returns
returns c =
    let r = c.position.ensures.runs in
    let u = r.0 in
    let k = c.chunks_exact.ensures in
    first_bad u _ _ Paired c.args.body.now (chunks_exact_size u.from) (chunks_exact_rest u.from) (ap chunks_exact_size r.1 ∙ k.size)
    (ap chunks_exact_rest r.1 ∙ k.rest ∙ between_to_end c.args.body.now 5 _ (omega arith)) c.requires
    (k.runs u u.seen) (λ a b q h. search (rules, tests)) (λ x h. search (rules, tests)) (λ x h. search (rules, tests)) c.position.result r.2
