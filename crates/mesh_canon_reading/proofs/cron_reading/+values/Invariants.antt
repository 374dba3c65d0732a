use Rattle.mesh_canon_reading.proofs.cron_reading.+values.Given as goal

abbrev pub decreases-values : goal.decreases-values
decreases-values l = l.count
