use Rattle.std.proofs.Common.{sym, ◌∙◌, rules}
use Rattle.readers.specs.Values.{integer_of}
use Rattle.snapshot.proofs.Walks.{field_inside}
use Rattle.snapshot.proofs.walk.visit_marks.Goals as goal

pub overflow_sub-m : goal.overflow_sub-m
overflow_sub-m g c =
    let h = field_inside c.args.m.now 6 (integer_of 6) 1 (sym c.next.ensures ∙ c.in_ok-size.was) in
    search rules
