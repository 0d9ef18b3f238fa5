use Rattle.wu_view.proofs.links.+put_directory.Given as goal

abbrev pub decreases-put_directory : goal.decreases-put_directory
decreases-put_directory l = l.directory
