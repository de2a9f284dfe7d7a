use Rattle.mx_request.proofs.writing.replies.push_status.Goals as goal

pub returns-in-Segment-clause-ok : goal.returns-in-Segment-clause-ok
returns-in-Segment-clause-ok c = rw c.in-Segment.is c.push_segment.ensures.ok

pub returns-in-Object-clause-ok : goal.returns-in-Object-clause-ok
returns-in-Object-clause-ok c = rw c.in-Object.is c.push_object.ensures.ok
