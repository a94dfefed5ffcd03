use Rattle.digits.proofs.decimal.+put_decimals.Given as goal

abbrev pub decreases-put_decimals : goal.decreases-put_decimals
decreases-put_decimals l = l.places
