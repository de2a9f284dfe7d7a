-- The page that is freed with a linkage section was held: it is not free, and no segment lies on it.
use Rattle.std.proofs.Common.{◌≡◌, ◌+◌, ◌≤◌, ◌<◌, ℕ, zero, suc, eqb, Bool, true, false, cond, List, [], ◌∷◌, find, get_or, slice_get, Option, Some, None, IfSome, refl, sym, ap, ◌∙◌, eq-eqb, arith}
use Rattle.std.proofs.lemmas.Bool.{eqb-true}
use Rattle.std.specs.List.{count_by}
use Rattle.std.specs.Option.{option_and_then}
use Rattle.mx_kst.specs.KnownSegments as known
use Rattle.mx_kst.specs.KnownSegments.{KnownSegments}
use Rattle.mx_kst.specs.Lots.{is_section_of, lot_of}
use Rattle.mx_kst.specs.declared.lots.Lot.{Lot}
use Rattle.mx_kst.specs.declared.lots.Lot.TheVariants.{Free, Stack, Branch, Linkage}
use Rattle.mx_pages.proofs.RunLaws.{in_run}
use Rattle.mx_pages.specs.Runs.{is_free, pages_for}
use Rattle.mx_sdw.specs.Rings.{Bracketing}
use Rattle.mx_state.specs.NextRun.{IsApart}
use Rattle.mx_state.specs.Pages.{ArePagesHeldOnce, free_count, holders, is_section_on}
use Rattle.mx_state.specs.Plain.{Plain}
use Rattle.mx_state.specs.Sections.{page_of_lot, section_page}
use Rattle.mx_state.specs.Sound.{IsSound}
use Rattle.mx_state.specs.declared.states.ProcessState.{ProcessState}
use Rattle.mx_state.proofs.BareLaws.{counted_or, segment_held, summed_at}

-- what is found where it can be in one place alone
found_nowhere : {X : Type 0} (test : X → Bool) (xs : List X) (d : X) → ((m : ℕ) → test (get_or xs m d) ≡ true → ⊥) → find test xs ≡ None
found_nowhere test [] d none = refl
found_nowhere test (x ∷ xs) d none = by_test (test x) refl (found_nowhere test xs d (λ m. none (suc m)))
  where
    by_test : (b : Bool) → test x ≡ b → find test xs ≡ None → cond b (Some x) (find test xs) ≡ None
    by_test true t later = absurd (none zero t)
    by_test false t later = later

found_there : {X : Type 0} (test : X → Bool) (xs : List X) (n : ℕ) (d : X) → test d ≡ false
    → ((m : ℕ) → test (get_or xs m d) ≡ true → m ≡ n) → find test xs ≡ cond (test (get_or xs n d)) (Some (get_or xs n d)) None
found_there test [] n d fails only = sym (ap (λ b. cond b (Some d) None) fails)
found_there test (x ∷ xs) zero d fails only = by_test (test x) refl (found_nowhere test xs d)
  where
    by_test : (b : Bool) → test x ≡ b → (((m : ℕ) → test (get_or xs m d) ≡ true → ⊥) → find test xs ≡ None)
        → cond b (Some x) (find test xs) ≡ cond b (Some x) None
    by_test true t later = refl
    by_test false t later = later (λ m holds. absurd (omega (arith, only (suc m) holds)))
found_there test (x ∷ xs) (suc n) d fails only =
    by_test (test x) refl (found_there test xs n d fails (λ m holds. omega (arith, only (suc m) holds)))
  where
    by_test : (b : Bool) → test x ≡ b → find test xs ≡ cond (test (get_or xs n d)) (Some (get_or xs n d)) None
        → cond b (Some x) (find test xs) ≡ cond (test (get_or xs n d)) (Some (get_or xs n d)) None
    by_test true t later = absurd (omega (arith, only zero t))
    by_test false t later = later

-- the page of the section of a lot
abbrev pub section_in : Lot → ℕ → Option ℕ
section_in lot segno = cond (is_section_of segno lot) (page_of_lot lot) None

-- a section has the number after that of its segment
pub section_page_at : (k : KnownSegments) (segno : ℕ) → known.IsSound k → section_page k segno ≡ section_in (lot_of k.lots (segno + 1)) segno
section_page_at k segno sound =
    ap (option_and_then page_of_lot) (found_there (is_section_of segno) k.lots (segno + 1) Free refl (λ m. only m (lot_of k.lots m) refl))
    ∙ by_test (is_section_of segno (lot_of k.lots (segno + 1)))
  where
    only : (m : ℕ) (lot : Lot) → lot_of k.lots m ≡ lot → is_section_of segno lot ≡ true → m ≡ segno + 1
    only m Free e holds = absurd (cc)
    only m (Stack ring) e holds = absurd (cc)
    only m (Branch uid) e holds = absurd (cc)
    only m (Linkage of page brackets words) e holds =
        omega (arith, (sound.section_next m of page words brackets e).0, eqb-true of segno holds)

    by_test : (b : Bool) → option_and_then page_of_lot (cond b (Some (lot_of k.lots (segno + 1))) None)
        ≡ cond b (page_of_lot (lot_of k.lots (segno + 1))) None
    by_test true = refl
    by_test false = refl

section_stands : (k : KnownSegments) (segno own : ℕ) → known.IsSound k → section_page k segno ≡ Some own
    → (of : ℕ) × (words : ℕ) × (brackets : Bracketing) × (lot_of k.lots (segno + 1) ≡ Linkage of own brackets words)
section_stands k segno own sound e = by_lot (lot_of k.lots (segno + 1)) refl (sym (section_page_at k segno sound) ∙ e)
  where
    by_own : (b : Bool) (of page words : ℕ) (brackets : Bracketing) → lot_of k.lots (segno + 1) ≡ Linkage of page brackets words
        → cond b (Some page) None ≡ Some own
        → (of : ℕ) × (words : ℕ) × (brackets : Bracketing) × (lot_of k.lots (segno + 1) ≡ Linkage of own brackets words)
    by_own true of page words brackets l e =
        let same : page ≡ own = cc in (of, words, brackets, l ∙ ap (λ p. Linkage of p brackets words) same)
    by_own false of page words brackets l e = absurd (cc)

    by_lot : (lot : Lot) → lot_of k.lots (segno + 1) ≡ lot → section_in lot segno ≡ Some own
        → (of : ℕ) × (words : ℕ) × (brackets : Bracketing) × (lot_of k.lots (segno + 1) ≡ Linkage of own brackets words)
    by_lot Free l e = absurd (cc)
    by_lot (Stack ring) l e = absurd (cc)
    by_lot (Branch uid) l e = absurd (cc)
    by_lot (Linkage of page brackets words) l e = by_own (eqb of segno) of page words brackets l e

-- a page that is held is not free
held_taken : (s : Plain) (page : ℕ) → ArePagesHeldOnce s → page < 1024 → 1 ≤ holders s page → is_free s.hierarchy.pages page ≡ false
held_taken s page held below one = by_free (is_free s.hierarchy.pages page) refl
  where
    by_free : (b : Bool) → is_free s.hierarchy.pages page ≡ b → b ≡ false
    by_free false f = refl
    by_free true f =
        let count : free_count s page ≡ 1 = ap {B = ℕ} (λ (b : Bool). cond b 1 0) f in
        absurd (omega (arith, held page below, one, count))

-- the page of a section that goes with a number
pub page_apart : (s : Plain) (i : ℕ) (process : ProcessState) (segno : ℕ) (page : Option ℕ) → IsSound s → ArePagesHeldOnce s
    → slice_get s.processes i ≡ Some process → page ≡ section_page process.known segno → IfSome page (IsApart s.hierarchy)
page_apart s i process segno None sound held there e = tt
page_apart s i process segno (Some own) sound held there e =
    let table = (sound.processes i process there).known in
    let stands = section_stands process.known segno own table (sym e) in
    let last = (table.section_within (segno + 1) stands.0 own stands.1 stands.2 stands.3).last_page in
    let on : is_section_on own (lot_of process.known.lots (segno + 1)) ≡ true = ap (is_section_on own) stands.3 ∙ eq-eqb own own refl in
    let one = counted_or (is_section_on own) process.known.lots (segno + 1) Free refl on in
    let all = summed_at (λ (x : ProcessState). count_by (is_section_on own) x.known.lots) s.processes i process there in
    let below : own < 1024 = omega (arith, last) in
    record {
      within = below;
      taken = held_taken s own held below (omega (arith, one, all));
      apart = λ uid segment is has.
          let lies = segment_held s.hierarchy.branches uid own segment is (in_run (pages_for segment.words) segment.page own has) in
          absurd (omega (arith, held own below, one, all, lies));
    }
