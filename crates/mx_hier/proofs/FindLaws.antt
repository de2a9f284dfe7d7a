-- What a search rule finds, by where the walk ended.
use Rattle.std.proofs.Common.{◌≡◌, ℕ, Option, None, Some, Result, Ok, Err, cond, refl, ap}
use Rattle.mx_hier.specs.declared.branches.Directory.{Directory}
use Rattle.mx_hier.specs.declared.refusals.Refusal.{Refusal}
use Rattle.mx_hier.specs.Branches.{Hierarchy, segment_at}
use Rattle.mx_hier.specs.Callers.{Subject, has_access, on}
use Rattle.mx_hier.specs.Find.{accessible}
use Rattle.mx_hier.specs.Walks.{told}

pub found : (h : Hierarchy) (who : Subject) (walked : Result ℕ (Refusal × Option Directory)) (uid : ℕ) → Ok uid ≡ told who walked
    → cond (on (has_access who) (segment_at h uid)) (Some uid) None ≡ accessible h who walked
found h who (Ok other) uid e = let same : uid ≡ other = cc in ap (λ n. cond (on (has_access who) (segment_at h n)) (Some n) None) same
found h who (Err refusal) uid e = cc

pub not_found : (h : Hierarchy) (who : Subject) (walked : Result ℕ (Refusal × Option Directory)) (why : Refusal) → Err why ≡ told who walked
    → None ≡ accessible h who walked
not_found h who (Ok other) why e = cc
not_found h who (Err refusal) why e = refl
