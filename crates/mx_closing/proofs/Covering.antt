-- A descriptor that a table may hold covers only pages of the memory.
use Rattle.std.proofs.Common.{◌≡◌, ℕ, ◌+◌, ◌*◌, ◌<◌, refl, ap, arith}
use Rattle.std.specs.Prelude.{IsTrue, nat_le, nat_lt}
use Rattle.std.proofs.lemmas.Bool.{and_parts, ltb-true}
use Rattle.mx_core.specs.Pages.{covers}
use Rattle.mx_pages.specs.Runs.{page_count}
use Rattle.mx_sdw.specs.Admissible.{IsAdmissible}
use Rattle.mx_sdw.specs.Descriptors.{Descriptor}
use Rattle.mx_sdw.specs.declared.descriptors.DescKind.{DescKind}
use Rattle.mx_sdw.specs.declared.descriptors.DescKind.TheVariants.{Unknown, Gone, Segment}

pub covers_within : (d : Descriptor) (page : ℕ) → IsAdmissible d → IsTrue (covers d page) → page < page_count
covers_within d page a h = by_kind d.kind refl
  where
    high : 64 * page < 64 * d.page + d.bound
    high = ltb-true (64 * page) (64 * d.page + d.bound)
        (and_parts (nat_le d.page page) (nat_lt (64 * page) (64 * d.page + d.bound)) h).1

    by_kind : (kind : DescKind) → d.kind ≡ kind → page < page_count
    by_kind Unknown e = let t = high in let z = ap (λ (k : Descriptor). 64 * k.page + k.bound) (a.unknown e) in absurd (omega arith)
    by_kind Gone e = let t = high in let z = ap (λ (k : Descriptor). 64 * k.page + k.bound) (a.gone e) in absurd (omega arith)
    by_kind Segment e = let t = high in let z = (a.segment e).cells in omega arith
