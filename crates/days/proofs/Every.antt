-- What holds of every day, of any rules that are lawful.
use Rattle.days.specs.Model.{Rules, Lawful}
use Rattle.days.specs.Theorem.{EveryDay}
use Rattle.days.proofs.Chunks.{means_its_stream, days_agree, takes_within_limit}
use Rattle.days.proofs.Fitting.{keeps_a_ladder}
use Rattle.days.proofs.Standing.{stands_by_history}
use Rattle.days.proofs.Late.{late_starter}

pub every_day : {T : Type 0} (v : Rules T) → Lawful v → EveryDay v
every_day v law = record {
  means = means_its_stream v law;
  agree = days_agree v law;
  limited = takes_within_limit v law;
  stands = stands_by_history v law;
  ladder = keeps_a_ladder v law;
  late = late_starter v law;
}
