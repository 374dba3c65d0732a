use Rattle.mesh_canon_text.proofs.cron_text.+put_values.Given as goal

abbrev pub decreases-put_values : goal.decreases-put_values
decreases-put_values l = l.count
