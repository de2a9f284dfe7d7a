-- How many hold a page, after lists of branches, lots and processes have changed.
use Rattle.std.proofs.Common.{◌≡◌, ◌+◌, ◌-◌, ◌*◌, ◌≤◌, ℕ, zero, suc, eqb, ltb, Bool, true, false, cond, not, List, [], ◌∷◌, ◌++◌, map, length, ◌⊎◌, inl, inr, find, Option, Some, None, IfSome, true≢false, refl, sym, ap, subst, ◌∙◌, slice_get, slice_set, length-set, sum_by, eq-eqb, arith}
use Rattle.std.proofs.lemmas.Bool.{eqb-true, ltb-true}
use Rattle.std.proofs.lemmas.List.{length-map}
use Rattle.std.proofs.lemmas.List.Sums.{sum_by-cons, sum_by-append, sum_by_push}
use Rattle.std.specs.List.{count_by, filter, range_with_len}
use Rattle.std.specs.Option.{option_and_then}
use Rattle.mx_pages.proofs.RunLaws.{in_run, is_in, taken, was_free, free_from_on, free_or_freed, given_free}
use Rattle.mx_pages.specs.Runs.{PageMap, pages_for, is_free, is_in_run, IsFree, IsFreeRun, IsInRun, free_from, with_run, with_free}
use Rattle.mx_hier.specs.Branches.{Hierarchy, as_segment, branch_of, segment_at, segment_in}
use Rattle.mx_hier.specs.Changing.{changed}
use Rattle.mx_hier.specs.Delete.{without, deleted, pages_left}
use Rattle.mx_hier.specs.declared.branches.Branch.{Branch}
use Rattle.mx_hier.specs.declared.branches.Segment.{Segment}
use Rattle.mx_hier.specs.declared.branches.Node.{Node}
use Rattle.mx_hier.specs.declared.branches.Node.TheVariants.{Directory as IsDirectory, Segment as IsSegment, Link as IsLink}
use Rattle.mx_hier.specs.Linkage.{page_given}
use Rattle.mx_hier.specs.Opening.{opening}
use Rattle.mx_kst.specs.Initiating.{lots_given, lots_with}
use Rattle.mx_kst.specs.KnownSegments.{KnownSegments}
use Rattle.mx_kst.specs.Lots.{is_section_of}
use Rattle.mx_kst.specs.Sections.{PlainSection}
use Rattle.mx_kst.specs.Terminating.{lot_without, lots_without}
use Rattle.mx_kst.specs.declared.lots.Lot.{Lot}
use Rattle.mx_kst.specs.declared.lots.Lot.TheVariants.{Free, Stack, Branch as KnownBranch, Linkage}
use Rattle.mx_kst.specs.declared.segments.Known.{Known}
use Rattle.mx_mail.specs.Processes.{PlainProcess}
use Rattle.mx_request.specs.declared.entrants.Entrant.{Entrant}
use Rattle.mx_state.specs.Connecting.{with_section_page}
use Rattle.mx_state.specs.History.{fresh}
use Rattle.mx_state.specs.Pages.{lies_on, segments_at, is_section_on, sections_at, ArePagesHeldOnce}
use Rattle.mx_state.specs.Plain.{Plain}
use Rattle.mx_state.specs.Sections.{page_of_lot, section_page, with_page_back}
use Rattle.mx_state.specs.declared.states.ProcessState.{ProcessState}

-- one or none
abbrev pub once : Bool → ℕ
once b = cond b 1 0

-- sums over lists
one_more : {X : Type 0} (p : X → Bool) (x : X) (xs : List X) → count_by p (x ∷ xs) ≡ once (p x) + count_by p xs
one_more p x xs = sum_by-cons (λ y. cond (p y) 1 0) x xs

pub replaced_sum : {X : Type 0} (f : X → ℕ) (xs : List X) (i : ℕ) (x y : X) → slice_get xs i ≡ Some x
    → sum_by f (slice_set xs i y) + f x ≡ sum_by f xs + f y
replaced_sum f [] i x y e = absurd (cc)
replaced_sum f (z ∷ zs) zero x y e =
    let same : z ≡ x = cc in
    omega (arith, sum_by-cons f y zs, sum_by-cons f z zs, ap f same)
replaced_sum f (z ∷ zs) (suc i) x y e =
    omega (arith, replaced_sum f zs i x y e, sum_by-cons f z zs, sum_by-cons f z (slice_set zs i y))

filtered_less : {X : Type 0} (p keep : X → Bool) (xs : List X) → count_by p (filter keep xs) ≤ count_by p xs
filtered_less p keep [] = omega arith
filtered_less p keep (x ∷ xs) = by_test (keep x) (filtered_less p keep xs)
  where
    by_test : (b : Bool) → count_by p (filter keep xs) ≤ count_by p xs
        → count_by p (cond b (x ∷ filter keep xs) (filter keep xs)) ≤ count_by p (x ∷ xs)
    by_test true less = omega (arith, one_more p x (filter keep xs), one_more p x xs, less)
    by_test false less = omega (arith, one_more p x xs, less)

mapped_less : {X : Type 0} (p : X → Bool) (f : X → X) (xs : List X) → ((x : X) → once (p (f x)) ≤ once (p x))
    → count_by p (map f xs) ≤ count_by p xs
mapped_less p f [] one = omega arith
mapped_less p f (x ∷ xs) one =
    omega (arith, one_more p (f x) (map f xs), one_more p x xs, one x, mapped_less p f xs one)

mapped_same : {X : Type 0} (p : X → Bool) (f : X → X) (xs : List X) → ((x : X) → p (f x) ≡ p x)
    → count_by p (map f xs) ≡ count_by p xs
mapped_same p f [] one = refl
mapped_same p f (x ∷ xs) one =
    one_more p (f x) (map f xs) ∙ ap (λ b. once b + count_by p (map f xs)) (one x)
    ∙ ap (λ n. once (p x) + n) (mapped_same p f xs one) ∙ sym (one_more p x xs)

-- an item that is written counts for nothing after it is mapped
emptied_less : {X : Type 0} (p : X → Bool) (f : X → X) (xs : List X) (i : ℕ) (y : X) → p (f y) ≡ false
    → count_by p (map f (slice_set xs i y)) ≤ count_by p (map f xs)
emptied_less p f [] i y none = omega arith
emptied_less p f (x ∷ xs) zero y none =
    omega (arith, one_more p (f y) (map f xs), one_more p (f x) (map f xs), ap once none)
emptied_less p f (x ∷ xs) (suc i) y none =
    omega (arith, one_more p (f x) (map f (slice_set xs i y)), one_more p (f x) (map f xs), emptied_less p f xs i y none)

-- where what is found is left out, it counts no more
left_out : {X : Type 0} (p test : X → Bool) (xs : List X) (x : X) → find test xs ≡ Some x
    → count_by p (filter (λ y. not (test y)) xs) + once (p x) ≤ count_by p xs
left_out p test [] x e = absurd (cc)
left_out p test (y ∷ ys) x e = by_test (test y) e (left_out p test ys x)
  where
    by_test : (b : Bool) → cond b (Some y) (find test ys) ≡ Some x
        → (find test ys ≡ Some x → count_by p (filter (λ y. not (test y)) ys) + once (p x) ≤ count_by p ys)
        → count_by p (cond (not b) (y ∷ filter (λ y. not (test y)) ys) (filter (λ y. not (test y)) ys)) + once (p x) ≤ count_by p (y ∷ ys)
    by_test true e later =
        let same : y ≡ x = cc in
        omega (arith, one_more p y ys, filtered_less p (λ y. not (test y)) ys, ap (λ z. once (p z)) same)
    by_test false e later = omega (arith, one_more p y (filter (λ y. not (test y)) ys), one_more p y ys, later e)

-- nor where it is replaced by what counts for nothing
put_out : {X : Type 0} (p test : X → Bool) (d : X) (xs : List X) (x : X) → p d ≡ false → find test xs ≡ Some x
    → count_by p (map (λ y. cond (test y) d y) xs) + once (p x) ≤ count_by p xs
put_out p test d [] x none e = absurd (cc)
put_out p test d (y ∷ ys) x none e = by_test (test y) e (put_out p test d ys x none)
  where
    less : (z : _) → once (p (cond (test z) d z)) ≤ once (p z)
    less z = by (test z)
      where
        by : (b : Bool) → once (p (cond b d z)) ≤ once (p z)
        by true = omega (arith, ap once none)
        by false = omega arith

    by_test : (b : Bool) → cond b (Some y) (find test ys) ≡ Some x
        → (find test ys ≡ Some x → count_by p (map (λ y. cond (test y) d y) ys) + once (p x) ≤ count_by p ys)
        → count_by p (cond b d y ∷ map (λ y. cond (test y) d y) ys) + once (p x) ≤ count_by p (y ∷ ys)
    by_test true e later =
        let same : y ≡ x = cc in
        omega (
          arith,
          one_more p d (map (λ y. cond (test y) d y) ys),
          one_more p y ys,
          mapped_less p (λ y. cond (test y) d y) ys less,
          ap once none,
          ap (λ z. once (p z)) same,
        )
    by_test false e later = omega (arith, one_more p y (map (λ y. cond (test y) d y) ys), one_more p y ys, later e)

-- branches
pub lies_alike : (page : ℕ) (node other : Node) → as_segment node ≡ as_segment other → lies_on page node ≡ lies_on page other
lies_alike page node other same = by_segment node ∙ ap by_which same ∙ sym (by_segment other)
  where
    by_which : Option Segment → Bool
    by_which None = false
    by_which (Some segment) = is_in_run (pages_for segment.words) segment.page page

    by_segment : (node : Node) → lies_on page node ≡ by_which (as_segment node)
    by_segment (IsSegment segment) = refl
    by_segment (IsDirectory directory) = refl
    by_segment (IsLink target) = refl

pub changed_hold : (at : ℕ) (f : Branch → Branch) (branches : List Branch) (page : ℕ) → ((x : Branch) → lies_on page (f x).node ≡ lies_on page x.node)
    → segments_at (changed at f branches) page ≡ segments_at branches page
changed_hold at f branches page same =
    mapped_same (λ (branch : Branch). lies_on page branch.node) (λ branch. cond (eqb branch.uid at) (f branch) branch) branches (λ x. by_test x (eqb x.uid at))
  where
    by_test : (x : Branch) (b : Bool) → lies_on page (cond b (f x) x).node ≡ lies_on page x.node
    by_test x true = same x
    by_test x false = refl

-- what of a hierarchy counts at a page: whether it is free, and the segments
abbrev pub counted : Hierarchy → ℕ → ℕ
counted h page = once (is_free h.pages page) + segments_at h.branches page

-- a page is free after a run was freed only where it was free, or is one of the run
pub freed_count : (pages : PageMap) (n first page : ℕ)
    → once (is_free (with_free pages first n) page) ≤ once (is_free pages page) + once (is_in_run n first page)
freed_count pages n first page =
    by_tests (is_free (with_free pages first n) page) (is_free pages page) (is_in_run n first page) refl refl refl
  where
    neither : is_free pages page ≡ false → is_in_run n first page ≡ false → IsFree pages page ⊎ IsInRun n first page → ⊥
    neither b i (inl free) = true≢false (sym free ∙ b)
    neither b i (inr inside) = true≢false (sym (in_run n first page inside) ∙ i)

    by_tests : (after before inside : Bool) → is_free (with_free pages first n) page ≡ after → is_free pages page ≡ before
        → is_in_run n first page ≡ inside → once after ≤ once before + once inside
    by_tests false before inside a b i = omega arith
    by_tests true true inside a b i = omega arith
    by_tests true false true a b i = omega arith
    by_tests true false false a b i = absurd (neither b i (free_or_freed pages first n page a))

-- a segment that is left out lies on its pages no more
segment_left_out : (branches : List Branch) (uid page : ℕ) (segment : Segment) → segment_in branches uid ≡ Some segment
    → segments_at (without uid branches) page + once (is_in_run (pages_for segment.words) segment.page page) ≤ segments_at branches page
segment_left_out branches uid page segment is = by_branch (branch_of branches uid) refl is
  where
    lies : (node : Node) → as_segment node ≡ Some segment → lies_on page node ≡ is_in_run (pages_for segment.words) segment.page page
    lies (IsSegment other) e =
        let same : other ≡ segment = cc in
        ap (λ (x : Segment). is_in_run (pages_for x.words) x.page page) same
    lies (IsDirectory directory) e = absurd (cc)
    lies (IsLink target) e = absurd (cc)

    by_branch : (o : Option Branch) → branch_of branches uid ≡ o → option_and_then (λ (branch : Branch). as_segment branch.node) o ≡ Some segment
        → segments_at (without uid branches) page + once (is_in_run (pages_for segment.words) segment.page page) ≤ segments_at branches page
    by_branch None e s = absurd (cc)
    by_branch (Some branch) e s =
        omega (
          arith,
          left_out (λ (branch : Branch). lies_on page branch.node) (λ branch. eqb branch.uid uid) branches branch e,
          ap once (lies branch.node s),
        )

-- so its pages, which are free then, are held no more
pub deleted_count : (h : Hierarchy) (uid page : ℕ) → counted (deleted h uid) page ≤ counted h page
deleted_count h uid page = by_segment (segment_at h uid) refl
  where
    by_segment : (o : Option Segment) → segment_at h uid ≡ o
        → once (is_free (pages_left h.pages o) page) + segments_at (without uid h.branches) page ≤ counted h page
    by_segment None e =
        omega (arith, filtered_less (λ (branch : Branch). lies_on page branch.node) (λ branch. not (eqb branch.uid uid)) h.branches)
    by_segment (Some segment) e =
        omega (arith, freed_count h.pages (pages_for segment.words) segment.page page, segment_left_out h.branches uid page segment e)

pub changed_count : (h : Hierarchy) (at : ℕ) (f : Branch → Branch) (page : ℕ) → ((x : Branch) → lies_on page (f x).node ≡ lies_on page x.node)
    → counted (record h { branches = changed at f h.branches }) page ≤ counted h page
changed_count h at f page same = omega (arith, changed_hold at f h.branches page same)

pub pushed : (branches : List Branch) (branch : Branch) (page : ℕ)
    → segments_at (branches ++ branch ∷ []) page ≡ segments_at branches page + once (lies_on page branch.node)
pushed branches branch page = sum_by_push (λ (branch : Branch). cond (lies_on page branch.node) 1 0) branches branch

-- a run that is given out was free, and is not free any more
pub run_count : (pages : PageMap) (n first page : ℕ) → IsFreeRun pages n first
    → once (is_free (with_run false pages first n) page) + once (is_in_run n first page) ≤ once (is_free pages page)
run_count pages n first page run =
    by_tests (is_free (with_run false pages first n) page) (is_in_run n first page) (is_free pages page) refl refl refl
  where
    there : IsInRun n first page → IsFree pages page
    there inside =
        let at : first + (page - first) ≡ page = omega (arith, inside.0) in
        subst (IsFree pages) at (run (page - first) (omega (arith, inside.0, inside.1)))

    by_tests : (after inside before : Bool) → is_free (with_run false pages first n) page ≡ after → is_in_run n first page ≡ inside
        → is_free pages page ≡ before → once after + once inside ≤ once before
    by_tests true true before a i b = absurd (taken pages first n page (is_in n first page i) a)
    by_tests true false true a i b = omega arith
    by_tests true false false a i b = absurd (true≢false (sym (was_free pages first n page a) ∙ b))
    by_tests false true true a i b = omega arith
    by_tests false true false a i b = absurd (true≢false (sym (there (is_in n first page i)) ∙ b))
    by_tests false false before a i b = omega arith

-- a run of one page
one_page_run : (own page : ℕ) → once (is_in_run 1 own page) ≤ once (eqb own page)
one_page_run own page = by_tests (is_in_run 1 own page) refl
  where
    by_tests : (inside : Bool) → is_in_run 1 own page ≡ inside → once inside ≤ once (eqb own page)
    by_tests false i = omega arith
    by_tests true i =
        let within = is_in 1 own page i in
        let same : own ≡ page = omega (arith, within.0, within.1) in
        omega (arith, ap once (eq-eqb own page same))

-- lots
abbrev pub section_count : Option PlainSection → ℕ → ℕ
section_count None page = 0
section_count (Some section) page = once (eqb section.page page)

given_count : (segno uid page : ℕ) (section : Option PlainSection) → count_by (is_section_on page) (lots_given segno uid section) ≡ section_count section page
given_count segno uid page None = refl
given_count segno uid page (Some section) = omega arith

lots_count : (lots : List Lot) (known : Known) (uid page : ℕ) (section : Option PlainSection)
    → count_by (is_section_on page) (lots_with lots known uid section) ≤ count_by (is_section_on page) lots + section_count section page
lots_count lots known uid page section = by_fresh known.fresh
  where
    by_fresh : (fresh : Bool) → count_by (is_section_on page) (cond fresh (lots ++ lots_given known.segno uid section) lots)
        ≤ count_by (is_section_on page) lots + section_count section page
    by_fresh true =
        omega (arith, sum_by-append (λ lot. cond (is_section_on page lot) 1 0) lots (lots_given known.segno uid section), given_count known.segno uid page section)
    by_fresh false = omega arith

ended_count : (lots : List Lot) (segno page : ℕ) → count_by (is_section_on page) (lots_without segno lots) ≤ count_by (is_section_on page) lots
ended_count lots segno page =
    omega (
      arith,
      mapped_less (is_section_on page) (lot_without segno) lots (λ lot. by_test lot (is_section_of segno lot)),
      emptied_less (is_section_on page) (lot_without segno) lots segno Free refl,
    )
  where
    by_test : (lot : Lot) (b : Bool) → once (is_section_on page (cond b Free lot)) ≤ once (is_section_on page lot)
    by_test lot true = omega arith
    by_test lot false = omega arith

pub on_page : (lot : Lot) (own page : ℕ) → page_of_lot lot ≡ Some own → is_section_on page lot ≡ eqb own page
on_page Free own page e = absurd (cc)
on_page (Stack ring) own page e = absurd (cc)
on_page (KnownBranch uid) own page e = absurd (cc)
on_page (Linkage of first brackets words) own page e = let same : first ≡ own = cc in ap (λ n. eqb n page) same

-- where a section goes with a number, it counts at its page no more
section_count_less : (lots : List Lot) (segno own page : ℕ) → option_and_then page_of_lot (find (is_section_of segno) lots) ≡ Some own
    → count_by (is_section_on page) (lots_without segno lots) + once (eqb own page) ≤ count_by (is_section_on page) lots
section_count_less lots segno own page e = by_lot (find (is_section_of segno) lots) refl e
  where
    by_lot : (o : Option Lot) → find (is_section_of segno) lots ≡ o → option_and_then page_of_lot o ≡ Some own
        → count_by (is_section_on page) (lots_without segno lots) + once (eqb own page) ≤ count_by (is_section_on page) lots
    by_lot None f e = absurd (cc)
    by_lot (Some lot) f e =
        omega (
          arith,
          put_out (is_section_on page) (is_section_of segno) Free lots lot refl f,
          emptied_less (is_section_on page) (lot_without segno) lots segno Free refl,
          ap once (on_page lot own page e),
        )

-- its page is free then
pub section_ended_count : (h : Hierarchy) (known : KnownSegments) (segno page : ℕ)
    → counted (with_page_back h (section_page known segno)) page + count_by (is_section_on page) (lots_without segno known.lots)
    ≤ counted h page + count_by (is_section_on page) known.lots
section_ended_count h known segno page = by_page (section_page known segno) refl
  where
    by_page : (o : Option ℕ) → section_page known segno ≡ o
        → counted (with_page_back h o) page + count_by (is_section_on page) (lots_without segno known.lots)
        ≤ counted h page + count_by (is_section_on page) known.lots
    by_page None e = omega (arith, ended_count known.lots segno page)
    by_page (Some own) e =
        omega (
          arith,
          freed_count h.pages 1 own page,
          section_count_less known.lots segno own page e,
          one_page_run own page,
        )

-- a section is on the page that is given out
pub section_page_count : (h : Hierarchy) (section : Option PlainSection) (page : ℕ) → IfSome section (λ s. page_given h ≡ Some s.page)
    → counted (with_section_page h section) page + section_count section page ≤ counted h page
section_page_count h None page given = omega arith
section_page_count h (Some section) page given =
    rw given (omega (arith, run_count h.pages 1 section.page page (given_free h.pages 1 section.page given), on_it (eqb section.page page) refl))
  where
    on_it : (b : Bool) → eqb section.page page ≡ b → once b ≤ once (is_in_run 1 section.page page)
    on_it false e = omega arith
    on_it true e =
        let same : section.page ≡ page = eqb-true section.page page e in
        subst (λ c. 1 ≤ once c) (sym (in_run 1 section.page page (omega (arith, same), omega (arith, same)))) (omega arith)

-- states
pub still_once : (s t : Plain) → length t.processes ≡ length s.processes
    → ((page : ℕ) → counted t.hierarchy page + sections_at t.processes page ≤ counted s.hierarchy page + sections_at s.processes page)
    → ArePagesHeldOnce s → ArePagesHeldOnce t
still_once s t count less held page within =
    omega (arith, less page, held page within, ap (λ n. once (ltb page (8 * n))) count)

-- another hierarchy in which no more counts
pub grown_once : (version : ℕ) (h k : Hierarchy) (mail : List PlainProcess) (processes : List ProcessState)
    → ((page : ℕ) → counted k page ≤ counted h page)
    → ArePagesHeldOnce (record { version = version; hierarchy = h; processes = processes; mail = mail })
    → ArePagesHeldOnce (record { version = version; hierarchy = k; processes = processes; mail = mail })
grown_once version h k mail processes less held =
    still_once (record { version = version; hierarchy = h; processes = processes; mail = mail })
    (record { version = version; hierarchy = k; processes = processes; mail = mail }) refl (λ page. omega (arith, less page)) held

-- a process in a place that has other lots, where no more sections and pages count than before
pub replaced_once : (version : ℕ) (h k : Hierarchy) (mail : List PlainProcess) (processes : List ProcessState) (i : ℕ) (process other : ProcessState)
    → slice_get processes i ≡ Some process
    → ((page : ℕ) → counted k page + count_by (is_section_on page) other.known.lots ≤ counted h page + count_by (is_section_on page) process.known.lots)
    → ArePagesHeldOnce (record { version = version; hierarchy = h; processes = processes; mail = mail })
    → ArePagesHeldOnce (record { version = version; hierarchy = k; processes = slice_set processes i other; mail = mail })
replaced_once version h k mail processes i process other there less held =
    still_once (record { version = version; hierarchy = h; processes = processes; mail = mail })
    (record { version = version; hierarchy = k; processes = slice_set processes i other; mail = mail }) (length-set processes i other)
    (λ page. omega (arith, less page, replaced_sum (λ (process : ProcessState). count_by (is_section_on page) process.known.lots) processes i process other there)) held

-- one that has a section more, on the page that was given out, or none
pub known_once : (version : ℕ) (h : Hierarchy) (mail : List PlainProcess) (processes : List ProcessState) (i : ℕ) (process other : ProcessState)
    (known : Known) (uid : ℕ) (section : Option PlainSection) → slice_get processes i ≡ Some process
    → other.known.lots ≡ lots_with process.known.lots known uid section → IfSome section (λ s. page_given h ≡ Some s.page)
    → ArePagesHeldOnce (record { version = version; hierarchy = h; processes = processes; mail = mail })
    → ArePagesHeldOnce (record { version = version; hierarchy = with_section_page h section; processes = slice_set processes i other; mail = mail })
known_once version h mail processes i process other known uid section there lots given held =
    replaced_once version h (with_section_page h section) mail processes i process other there
    (λ page. omega (
      arith,
      section_page_count h section page given,
      lots_count process.known.lots known uid page section,
      ap (λ (lots : List Lot). count_by (is_section_on page) lots) lots,
    )) held

-- one whose number stands for nothing more, nor that of its section, whose page is free
pub ended_once : (version : ℕ) (h : Hierarchy) (mail : List PlainProcess) (processes : List ProcessState) (i segno : ℕ) (process other : ProcessState)
    → slice_get processes i ≡ Some process → other.known.lots ≡ lots_without segno process.known.lots
    → ArePagesHeldOnce (record { version = version; hierarchy = h; processes = processes; mail = mail })
    → ArePagesHeldOnce (record { version = version; hierarchy = with_page_back h (section_page process.known segno); processes = slice_set processes i other; mail = mail })
ended_once version h mail processes i segno process other there lots held =
    replaced_once version h (with_page_back h (section_page process.known segno)) mail processes i process other there
    (λ page. omega (arith, section_ended_count h process.known segno page, ap (λ (lots : List Lot). count_by (is_section_on page) lots) lots)) held

pub kept_once : (version : ℕ) (h : Hierarchy) (mail : List PlainProcess) (processes : List ProcessState) (i : ℕ) (process other : ProcessState)
    → slice_get processes i ≡ Some process → other.known ≡ process.known
    → ArePagesHeldOnce (record { version = version; hierarchy = h; processes = processes; mail = mail })
    → ArePagesHeldOnce (record { version = version; hierarchy = h; processes = slice_set processes i other; mail = mail })
kept_once version h mail processes i process other there known held =
    replaced_once version h h mail processes i process other there
    (λ page. omega (arith, ap (λ (k : KnownSegments). count_by (is_section_on page) k.lots) known)) held

-- the state before any entry
no_section : (rings : List ℕ) (page : ℕ) → count_by (is_section_on page) (map Stack rings) ≡ 0
no_section [] page = refl
no_section (ring ∷ rings) page = omega (arith, one_more (is_section_on page) (Stack ring) (map Stack rings), no_section rings page)

fresh_sections : (version : ℕ) (entrants : List Entrant) (page : ℕ) → sections_at (map (fresh version) entrants) page ≡ 0
fresh_sections version [] page = refl
fresh_sections version (who ∷ others) page =
    omega (
      arith,
      sum_by-cons (λ (process : ProcessState). count_by (is_section_on page) process.known.lots) (fresh version who) (map (fresh version) others),
      no_section (range_with_len 0 8) page,
      fresh_sections version others page,
    )

stacks_or_free : (count page : ℕ) → once (is_free (free_from (8 * count)) page) + once (ltb page (8 * count)) ≤ 1
stacks_or_free count page = by_tests (is_free (free_from (8 * count)) page) (ltb page (8 * count)) refl refl
  where
    by_tests : (free stack : Bool) → is_free (free_from (8 * count)) page ≡ free → ltb page (8 * count) ≡ stack → once free + once stack ≤ 1
    by_tests true true f s = absurd (omega (arith, free_from_on (8 * count) page f, ltb-true page (8 * count) s))
    by_tests true false f s = omega arith
    by_tests false true f s = omega arith
    by_tests false false f s = omega arith

pub opened_once : (version : ℕ) (h : Hierarchy) (entrants : List Entrant) (processes : List ProcessState) (mail : List PlainProcess)
    → h ≡ opening (8 * length entrants) → processes ≡ map (fresh version) entrants
    → ArePagesHeldOnce (record { version = version; hierarchy = h; processes = processes; mail = mail })
opened_once version h entrants processes mail opened e page within =
    rw (opened, e) (omega (
      arith,
      stacks_or_free (length entrants) page,
      fresh_sections version entrants page,
      ap (λ n. once (ltb page (8 * n))) (length-map entrants (fresh version)),
    ))
