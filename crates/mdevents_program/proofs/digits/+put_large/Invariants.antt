use Rattle.mdevents_program.proofs.digits.+put_large.Given as goal

abbrev pub decreases-put_large : goal.decreases-put_large
decreases-put_large l = l.number
