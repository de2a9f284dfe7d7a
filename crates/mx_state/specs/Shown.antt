-- What `status` tells: the class of a segment, in a session that has classes.
use Rattle.std.specs.Prelude.{ℕ, None, if◌then◌else◌}
use Rattle.mx_hier.specs.declared.asking.Status.{Status}
use Rattle.mx_hier.specs.declared.asking.Status.TheVariants.{Segment, Object}
use Rattle.mx_request.specs.Versions.{has_classes}

abbrev pub without_class : Status → Status
without_class (Segment words brackets modes class) = Segment words brackets modes None
without_class (Object words brackets gate definitions links modes class) =
    Object words brackets gate definitions links modes None
without_class status = status

abbrev pub shown : ℕ → Status → Status
shown version status = if has_classes version then status else without_class status
