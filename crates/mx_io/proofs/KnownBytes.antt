-- Laws on the bytes that a reader or a writer of std tells, one call after another.
use Rattle.std.proofs.Common.{◌≡◌, ℕ, List, [], ◌++◌, Option, Some, None, refl, sym, ◌∙◌, append-nil, ap}
use Rattle.std.specs.Io.KnownBytes.{Keeps, Consumes, Appends}

pub keeps_same : (a : Option (List ℕ)) → Keeps a a
keeps_same (Some xs) = refl
keeps_same None = tt

pub keeps_more : (a b c : Option (List ℕ)) → Keeps a b → Keeps b c → Keeps a c
keeps_more (Some a) (Some b) (Some c) first second = second ∙ first
keeps_more (Some a) (Some b) None first second = absurd second
keeps_more (Some a) None c first second = absurd first
keeps_more None b c first second = tt

pub keeps_consumes : (a b c : Option (List ℕ)) (xs : List ℕ) → Keeps a b → Consumes b c xs → Consumes a c xs
keeps_consumes (Some a) (Some b) (Some c) xs first second = sym first ∙ second
keeps_consumes (Some a) (Some b) None xs first second = absurd second
keeps_consumes (Some a) None c xs first second = absurd first
keeps_consumes None b c xs first second = tt

pub keeps_appends : (a b c : Option (List ℕ)) (xs : List ℕ) → Keeps a b → Appends b c xs → Appends a c xs
keeps_appends (Some a) (Some b) (Some c) xs first second = second ∙ ap (λ l. l ++ xs) first
keeps_appends (Some a) (Some b) None xs first second = absurd second
keeps_appends (Some a) None c xs first second = absurd first
keeps_appends None b c xs first second = tt

-- what is kept loses and gains nothing
pub kept_consumes : (a b : Option (List ℕ)) → Keeps a b → Consumes a b []
kept_consumes (Some a) (Some b) same = sym same
kept_consumes (Some a) None same = absurd same
kept_consumes None b same = tt

pub kept_appends : (a b : Option (List ℕ)) → Keeps a b → Appends a b []
kept_appends (Some a) (Some b) same = same ∙ sym (append-nil a)
kept_appends (Some a) None same = absurd same
kept_appends None b same = tt

-- at a count of nothing
pub appends_none : (a b : Option (List ℕ)) (xs : List ℕ) → Appends a b xs → xs ≡ [] → Appends a b []
appends_none (Some a) (Some b) xs added none = added ∙ ap (λ l. a ++ l) none
appends_none (Some a) None xs added none = absurd added
appends_none None b xs added none = tt

pub ruleset known_bytes = (keeps_same, keeps_more, keeps_consumes, keeps_appends, kept_consumes, kept_appends, appends_none)
