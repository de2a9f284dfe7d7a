-- Where a segment is not known and there are numbers for it, its number fits.
use Rattle.std.proofs.Common.{ℕ, ◌≡◌, ◌+◌, ◌≤◌, ◌&&◌, Bool, true, false, Option, None, is_none, is_some, cond, refl, length, nat_lt, ap, sym, ◌∙◌, arith}
use Rattle.std.proofs.lemmas.Bool.{cases_lt, lt-ltb}
use Rattle.std.proofs.Common.{inl, inr, true≢false}
use Rattle.mx_hier.specs.Branches.{Hierarchy}
use Rattle.mx_hier.specs.Linkage.{links_at, linkage_brackets_at, page_given}
use Rattle.mx_state.specs.Sections.{has_links, section_by, section_made}
use Rattle.mx_kst.specs.Initiating.{is_full, numbers_needed}
use Rattle.mx_kst.specs.KnownSegments.{KnownSegments}
use Rattle.mx_kst.specs.Lots.{number_of, numbers_left}

pub room : (k : KnownSegments) (uid : ℕ) (wanted : Bool) → number_of k.lots uid ≡ None → is_full k uid wanted ≡ false
    → length k.lots ≤ k.last + 1 → length k.lots + numbers_needed wanted ≤ k.last + 1
room k uid wanted none full within = elim (cases_lt (numbers_left k.last k.lots) (numbers_needed wanted)) [
  | inl few ↦ absurd (true≢false (sym (ap (λ (b : Bool). b) (lt-ltb (numbers_left k.last k.lots) (numbers_needed wanted) few))
      ∙ sym (ap (λ (found : Option ℕ). is_none found && nat_lt (numbers_left k.last k.lots) (numbers_needed wanted)) none) ∙ full))
  | inr enough ↦ omega (arith, enough, within)
]

-- with room for a section there is room without one
less : (k : KnownSegments) (uid : ℕ) → is_full k uid true ≡ false → is_full k uid false ≡ false
less k uid full = by (is_none (number_of k.lots uid)) full
  where
    by : (b : Bool) → (b && nat_lt (numbers_left k.last k.lots) 2) ≡ false → (b && nat_lt (numbers_left k.last k.lots) 1) ≡ false
    by false full = refl
    by true full = grind arith

-- a section is made only where there is room for it
pub fits : (h : Hierarchy) (k : KnownSegments) (uid : ℕ) → is_full k uid (has_links h uid) ≡ false → is_full k uid (is_some (section_made h k uid)) ≡ false
fits h k uid full = by (has_links h uid) refl full
  where
    any : is_full k uid true ≡ false → (b : Bool) → is_full k uid b ≡ false
    any full true = full
    any full false = less k uid full

    none : (b : Bool) → (b && false) ≡ false
    none true = refl
    none false = refl

    by : (b : Bool) → has_links h uid ≡ b → is_full k uid b ≡ false → is_full k uid (is_some (section_made h k uid)) ≡ false
    by true links full = any full (is_some (section_made h k uid))
    by false links full =
        ap (λ (needed : Bool). is_full k uid (is_some (cond needed (section_by (links_at h uid) (linkage_brackets_at h uid) (page_given h)) None)))
        (ap (λ (b : Bool). is_none (number_of k.lots uid) && b) links ∙ none (is_none (number_of k.lots uid)))
        ∙ full
