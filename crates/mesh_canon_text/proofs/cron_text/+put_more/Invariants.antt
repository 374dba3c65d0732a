use Rattle.mesh_canon_text.proofs.cron_text.+put_more.Given as goal

abbrev pub decreases-put_more : goal.decreases-put_more
decreases-put_more l = l.count
