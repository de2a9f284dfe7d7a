use Rattle.mx_transcript.proofs.numbering.+lines_before.Given as goal

-- each call has one script fewer to count
abbrev pub decreases-lines_before : goal.decreases-lines_before
decreases-lines_before l = l.p
