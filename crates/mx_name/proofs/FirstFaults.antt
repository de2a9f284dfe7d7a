-- The first fault of two is none exactly where both are none.
use Rattle.std.proofs.Common.{◌≡◌, Option, None, Some, refl}
use Rattle.std.specs.Option.{option_or}

pub or_left : {A : Type 0} (a b : Option A) → option_or a b ≡ None → a ≡ None
or_left None b h = refl
or_left (Some x) b h = h

pub or_right : {A : Type 0} (a b : Option A) → option_or a b ≡ None → b ≡ None
or_right None b h = h
or_right (Some x) b h = absurd (cc)

pub or_none : {A : Type 0} (a b : Option A) → a ≡ None → b ≡ None → option_or a b ≡ None
or_none a b e f = rw (e, f) refl
