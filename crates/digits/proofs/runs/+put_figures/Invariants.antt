use Rattle.digits.proofs.runs.+put_figures.Given as goal

abbrev pub decreases-put-figures : goal.decreases-put-figures
decreases-put-figures l = l.n
