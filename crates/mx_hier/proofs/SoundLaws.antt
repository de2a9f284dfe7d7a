-- What a request does to the branches leaves every segment on pages of its own.
use Rattle.std.proofs.Common.{◌≡◌, ◌≢◌, ◌⊎◌, ◌↔◌, inl, inr, ℕ, ◌+◌, ◌-◌, ◌<◌, ◌≤◌, eqb, cond, not, Bool, true, false, List, [], ◌∷◌, ◌++◌, Option, Some, None, refl, sym, ap, subst, ◌∙◌, arith}
use Rattle.std.proofs.lemmas.Bool.{eqb-true, ne_eqb}
use Rattle.std.specs.Option.{option_map, option_and_then}
use Rattle.mx_acl.specs.Access.{Access}
use Rattle.mx_object.specs.Objects.{PlainObjectMap}
use Rattle.mx_pages.specs.declared.pages.PageRun.{PageRun}
use Rattle.mx_pages.specs.Runs.{PageMap, pages_for, IsFreeRun, IsFree, IsInRun, run_given, after_run}
use Rattle.mx_hier.specs.declared.branches.Branch.{Branch}
use Rattle.mx_hier.specs.declared.branches.Directory.{Directory}
use Rattle.mx_hier.specs.declared.branches.Segment.{Segment}
use Rattle.mx_hier.specs.declared.branches.Node.{Node}
use Rattle.mx_hier.specs.declared.branches.Node.TheVariants.{Directory as IsDirectory, Segment as IsSegment, Link as IsLink}
use Rattle.mx_hier.specs.Branches.{Hierarchy, branch_of, as_segment, segment_in, segment_at}
use Rattle.mx_hier.specs.Changing.{changed, with_node, acl_changed, segment_changed, directory_changed}
use Rattle.mx_hier.specs.Delete.{without}
use Rattle.mx_hier.specs.Objects.{Objects, with_object, gate_of, defined_in}
use Rattle.mx_hier.specs.Sound.{IsStored, HasPage, AreObjects, IsSound}
use Rattle.mx_hier.specs.Listed.{Listed}
use Rattle.mx_pages.proofs.RunLaws.{taken, was_free, was_free_before}
use Rattle.mx_hier.proofs.ObjectLaws.{objects_later, objects_with}

-- a segment stood there before, on the same pages
pub record WasOn (old : Option Segment) (segment : Segment) : Type 0 where
  pub was : Segment
  pub there : old ≡ Some was
  pub words : segment.words ≡ was.words
  pub page : segment.page ≡ was.page

was_itself : (old : Option Segment) (segment : Segment) → old ≡ Some segment → WasOn old segment
was_itself old segment is = record { was = segment; there = is; words = refl; page = refl }

moved : (segment was : Segment) (page : ℕ) → segment.words ≡ was.words → segment.page ≡ was.page → HasPage segment page → HasPage was page
moved segment was page words at has = subst (λ n. (was.page ≤ page) × (page < was.page + pages_for n)) words (subst (λ n. (n ≤ page) × (page < n + pages_for segment.words)) at has)

stored_as : (segment was : Segment) → segment.words ≡ was.words → segment.page ≡ was.page → IsStored was → IsStored segment
stored_as segment was words at is = record {
  some = omega (arith, words, is.some);
  most = omega (arith, words, is.most);
  pages = subst (λ n. segment.page + pages_for n ≤ 1024) (sym words) (omega (arith, at, is.pages));
}

-- each segment stands where it stood, and no page has become free
pub sound_kept : (old new : List Branch) (next : ℕ) (pages : PageMap) (objects : Objects)
    → ((uid : ℕ) (segment : Segment) → segment_in new uid ≡ Some segment → WasOn (segment_in old uid) segment)
    → IsSound old next pages objects → IsSound new next pages objects
sound_kept old new next pages objects kept sound = record {
  first = sound.first;
  last = sound.last;
  stored = λ uid segment is. let w = kept uid segment is in stored_as segment w.was w.words w.page (sound.stored uid w.was w.there);
  taken = λ uid page segment is has. let w = kept uid segment is in sound.taken uid page w.was w.there (moved segment w.was page w.words w.page has);
  apart = λ uid other a b is also differ page has too.
      let w = kept uid a is in
      let v = kept other b also in
      sound.apart uid other w.was v.was w.there v.there differ page (moved a w.was page w.words w.page has) (moved b v.was page v.words v.page too);
  maps = sound.maps;
}

-- one branch changed
module _ (f : Branch → Branch) (own : (x : Branch) → (f x).uid ≡ x.uid)
    (kept : (x : Branch) (segment : Segment) → as_segment (f x).node ≡ Some segment → WasOn (as_segment x.node) segment) where
  one_was : (b : Bool) (x : Branch) (uid : ℕ) (xs ys : List Branch) (segment : Segment)
      → (segment_in ys uid ≡ Some segment → WasOn (segment_in xs uid) segment)
      → segment_in (cond b (f x) x ∷ ys) uid ≡ Some segment → WasOn (segment_in (x ∷ xs) uid) segment
  one_was true x uid xs ys segment rest is = by (eqb (f x).uid uid) (eqb x.uid uid) (ap (λ n. eqb n uid) (own x)) is
    where
      by : (c d : Bool) → c ≡ d → option_and_then (λ (branch : Branch). as_segment branch.node) (cond c (Some (f x)) (branch_of ys uid)) ≡ Some segment
          → WasOn (option_and_then (λ (branch : Branch). as_segment branch.node) (cond d (Some x) (branch_of xs uid))) segment
      by true true e is = kept x segment is
      by true false e is = absurd (cc)
      by false true e is = absurd (cc)
      by false false e is = rest is
  one_was false x uid xs ys segment rest is = by (eqb x.uid uid) is
    where
      by : (c : Bool) → option_and_then (λ (branch : Branch). as_segment branch.node) (cond c (Some x) (branch_of ys uid)) ≡ Some segment
          → WasOn (option_and_then (λ (branch : Branch). as_segment branch.node) (cond c (Some x) (branch_of xs uid))) segment
      by true is = was_itself (as_segment x.node) segment is
      by false is = rest is

  changed_was : (at uid : ℕ) (branches : List Branch) (segment : Segment) → segment_in (changed at f branches) uid ≡ Some segment
      → WasOn (segment_in branches uid) segment
  changed_was at uid [] segment is = absurd (cc)
  changed_was at uid (x ∷ xs) segment is = one_was (eqb x.uid at) x uid xs (changed at f xs) segment (changed_was at uid xs segment) is

  pub sound_changed : (at : ℕ) (pages : PageMap) (objects : Objects) (old new : Listed) → new ≡ record old { branches = changed at f old.branches }
      → IsSound old.branches old.next pages objects → IsSound new.branches new.next pages objects
  sound_changed at pages objects old new e sound =
      subst (λ (t : Listed). IsSound t.branches t.next pages objects) (sym e)
      (sound_kept old.branches (changed at f old.branches) old.next pages objects (λ uid segment is. changed_was at uid old.branches segment is) sound)

acl_keeps : (f : Access → Access) (node : Node) (segment : Segment) → as_segment (acl_changed f node) ≡ Some segment → WasOn (as_segment node) segment
acl_keeps f (IsDirectory directory) segment is = absurd (cc)
acl_keeps f (IsSegment was) segment is =
    let same : record was { acl = f was.acl } ≡ segment = cc in
    record { was = was; there = refl; words = ap (λ (s : Segment). s.words) (sym same); page = ap (λ (s : Segment). s.page) (sym same) }
acl_keeps f (IsLink target) segment is = absurd (cc)

segment_keeps : (f : Segment → Segment) (words : (s : Segment) → (f s).words ≡ s.words) (page : (s : Segment) → (f s).page ≡ s.page) (node : Node) (segment : Segment)
    → as_segment (segment_changed f node) ≡ Some segment → WasOn (as_segment node) segment
segment_keeps f words page (IsDirectory directory) segment is = absurd (cc)
segment_keeps f words page (IsSegment was) segment is =
    let same : f was ≡ segment = cc in
    record { was = was; there = refl; words = ap (λ (s : Segment). s.words) (sym same) ∙ words was; page = ap (λ (s : Segment). s.page) (sym same) ∙ page was }
segment_keeps f words page (IsLink target) segment is = absurd (cc)

directory_keeps : (f : Directory → Directory) (node : Node) (segment : Segment) → as_segment (directory_changed f node) ≡ Some segment → WasOn (as_segment node) segment
directory_keeps f (IsDirectory directory) segment is = absurd (cc)
directory_keeps f (IsSegment was) segment is = was_itself (Some was) segment is
directory_keeps f (IsLink target) segment is = absurd (cc)

pub sound_acl : (uid : ℕ) (f : Access → Access) (pages : PageMap) (objects : Objects) (old new : Listed)
    → new ≡ record old { branches = changed uid (λ branch. with_node (acl_changed f branch.node) branch) old.branches }
    → IsSound old.branches old.next pages objects → IsSound new.branches new.next pages objects
sound_acl uid f pages objects old new e sound =
    sound_changed (λ branch. with_node (acl_changed f branch.node) branch) (λ x. refl) (λ x segment is. acl_keeps f x.node segment is) uid pages objects old new e sound

pub sound_segment : (uid : ℕ) (f : Segment → Segment) (words : (s : Segment) → (f s).words ≡ s.words) (page : (s : Segment) → (f s).page ≡ s.page)
    (pages : PageMap) (objects : Objects) (old new : Listed)
    → new ≡ record old { branches = changed uid (λ branch. with_node (segment_changed f branch.node) branch) old.branches }
    → IsSound old.branches old.next pages objects → IsSound new.branches new.next pages objects
sound_segment uid f words page pages objects old new e sound =
    sound_changed (λ branch. with_node (segment_changed f branch.node) branch) (λ x. refl) (λ x segment is. segment_keeps f words page x.node segment is) uid pages objects old new e sound

pub sound_directory : (uid : ℕ) (f : Directory → Directory) (pages : PageMap) (objects : Objects) (old new : Listed)
    → new ≡ record old { branches = changed uid (λ branch. with_node (directory_changed f branch.node) branch) old.branches }
    → IsSound old.branches old.next pages objects → IsSound new.branches new.next pages objects
sound_directory uid f pages objects old new e sound =
    sound_changed (λ branch. with_node (directory_changed f branch.node) branch) (λ x. refl) (λ x segment is. directory_keeps f x.node segment is) uid pages objects old new e sound

pub sound_renamed : (uid : ℕ) (name : List ℕ) (pages : PageMap) (objects : Objects) (old new : Listed)
    → new ≡ record old { branches = changed uid (λ branch. record branch { name = name }) old.branches }
    → IsSound old.branches old.next pages objects → IsSound new.branches new.next pages objects
sound_renamed uid name pages objects old new e sound =
    sound_changed (λ branch. record branch { name = name }) (λ x. refl) (λ x segment is. was_itself (as_segment x.node) segment is) uid pages objects old new e sound

-- one branch removed
found_without : (at : ℕ) (branches : List Branch) (uid : ℕ) → uid ≢ at → branch_of (without at branches) uid ≡ branch_of branches uid
found_without at [] uid apart = refl
found_without at (x ∷ xs) uid apart = by_test (eqb x.uid at) refl (found_without at xs uid apart)
  where
    by_test : (b : Bool) → eqb x.uid at ≡ b → branch_of (without at xs) uid ≡ branch_of xs uid
        → branch_of (cond (not b) (x ∷ without at xs) (without at xs)) uid ≡ branch_of (x ∷ xs) uid
    by_test true t later =
        let here : x.uid ≡ at = eqb-true x.uid at t in
        rw (ne_eqb x.uid uid (λ same. apart (sym same ∙ here))) later
    by_test false t later = ap (cond (eqb x.uid uid) (Some x)) later

gone : (at : ℕ) (branches : List Branch) → branch_of (without at branches) at ≡ None
gone at [] = refl
gone at (x ∷ xs) = by_test (eqb x.uid at) refl (gone at xs)
  where
    by_test : (b : Bool) → eqb x.uid at ≡ b → branch_of (without at xs) at ≡ None → branch_of (cond (not b) (x ∷ without at xs) (without at xs)) at ≡ None
    by_test true t later = later
    by_test false t later = ap (λ (c : Bool). cond c (Some x) (branch_of (without at xs) at)) t ∙ later

still_there : (at uid : ℕ) (branches : List Branch) (segment : Segment) → segment_in (without at branches) uid ≡ Some segment
    → (uid ≢ at) × (segment_in branches uid ≡ Some segment)
still_there at uid branches segment is = by (eqb uid at) refl
  where
    by : (b : Bool) → eqb uid at ≡ b → (uid ≢ at) × (segment_in branches uid ≡ Some segment)
    by true t =
        let none : segment_in (without at branches) uid ≡ None =
        ap (λ n. segment_in (without at branches) n) (eqb-true uid at t) ∙ ap (option_and_then (λ (branch : Branch). as_segment branch.node)) (gone at branches) in
        absurd (cc)
    by false t =
        let differ : uid ≢ at = λ same. absurd (grind arith) in
        (differ, sym (ap (option_and_then (λ (branch : Branch). as_segment branch.node)) (found_without at branches uid differ)) ∙ is)

-- where it is no segment, the pages are as they were
pub sound_without : (at : ℕ) (pages : PageMap) (objects : Objects) (old new : Listed) → new ≡ record old { branches = without at old.branches }
    → IsSound old.branches old.next pages objects → IsSound new.branches new.next pages objects
sound_without at pages objects old new e sound =
    subst (λ (t : Listed). IsSound t.branches t.next pages objects) (sym e)
    (sound_kept old.branches (without at old.branches) old.next pages objects
    (λ uid segment is. was_itself (segment_in old.branches uid) segment (still_there at uid old.branches segment is).1) sound)

-- the pages of a segment are those of no other, and become free with it
abbrev pub run_of : Segment → PageRun
run_of segment = record { first = segment.page; count = pages_for segment.words }

pub sound_freed : (at first count : ℕ) (run : PageRun) (pages after : PageMap) (objects : Objects) (old new : Listed)
    → new ≡ record old { branches = without at old.branches } → Some run ≡ option_map run_of (segment_in old.branches at)
    → first ≡ run.first → count ≡ run.count → ((page : ℕ) → IsFree after page ↔ (IsFree pages page ⊎ IsInRun count first page))
    → IsSound old.branches old.next pages objects → IsSound new.branches new.next after objects
sound_freed at first count run pages after objects old new e is from many freed sound =
    subst (λ (t : Listed). IsSound t.branches t.next after objects) (sym e) (by (segment_in old.branches at) refl is)
  where
    by : (found : Option Segment) → segment_in old.branches at ≡ found → Some run ≡ option_map run_of found → IsSound (without at old.branches) old.next after objects
    by None there same = absurd (cc)
    by (Some was) there same =
        let begins : first ≡ was.page = from ∙ cc in
        let extends : count ≡ pages_for was.words = many ∙ cc in
        record {
          first = sound.first;
          last = sound.last;
          stored = λ uid segment found. sound.stored uid segment (still_there at uid old.branches segment found).1;
          taken = λ uid page segment found has free.
              let before = still_there at uid old.branches segment found in
              elim ((freed page).0 free) [
                | inl then ↦ sound.taken uid page segment before.1 has then
                | inr inside ↦
                    sound.apart uid at segment was before.1 there before.0 page has
                    (subst (λ n. IsInRun n was.page page) extends (subst (λ n. IsInRun count n page) begins inside))
              ];
          apart = λ uid other a b found also. sound.apart uid other a b (still_there at uid old.branches a found).1 (still_there at other old.branches b also).1;
          maps = sound.maps;
        }

-- one branch more: a segment is that of before, or the new one
added_was : (branches : List Branch) (branch : Branch) (uid : ℕ) (segment : Segment) → segment_in (branches ++ branch ∷ []) uid ≡ Some segment
    → (segment_in branches uid ≡ Some segment) ⊎ ((uid ≡ branch.uid) × (as_segment branch.node ≡ Some segment))
added_was [] branch uid segment is = by (eqb branch.uid uid) refl is
  where
    by : (b : Bool) → eqb branch.uid uid ≡ b → option_and_then (λ (branch : Branch). as_segment branch.node) (cond b (Some branch) None) ≡ Some segment
        → (None ≡ Some segment) ⊎ ((uid ≡ branch.uid) × (as_segment branch.node ≡ Some segment))
    by true t is = inr (sym (eqb-true branch.uid uid t), is)
    by false t is = inl is
added_was (x ∷ xs) branch uid segment is = by (eqb x.uid uid) is (added_was xs branch uid segment)
  where
    by : (b : Bool) → option_and_then (λ (branch : Branch). as_segment branch.node) (cond b (Some x) (branch_of (xs ++ branch ∷ []) uid)) ≡ Some segment
        → (segment_in (xs ++ branch ∷ []) uid ≡ Some segment → (segment_in xs uid ≡ Some segment) ⊎ ((uid ≡ branch.uid) × (as_segment branch.node ≡ Some segment)))
        → (option_and_then (λ (branch : Branch). as_segment branch.node) (cond b (Some x) (branch_of xs uid)) ≡ Some segment) ⊎ ((uid ≡ branch.uid) × (as_segment branch.node ≡ Some segment))
    by true is rest = inl is
    by false is rest = rest is

-- a directory or a link
pub sound_added : (pages : PageMap) (objects : Objects) (old new : Listed) (branch : Branch) → new ≡ record { branches = old.branches ++ branch ∷ []; next = 1 + old.next }
    → as_segment branch.node ≡ None → old.next < 4294967295 → IsSound old.branches old.next pages objects → IsSound new.branches new.next pages objects
sound_added pages objects old new branch e none left sound =
    subst (λ (t : Listed). IsSound t.branches t.next pages objects) (sym e) (record {
      first = omega arith;
      last = omega arith;
      stored = λ uid segment is. sound.stored uid segment (was uid segment is);
      taken = λ uid page segment is. sound.taken uid page segment (was uid segment is);
      apart = λ uid other a b is also. sound.apart uid other a b (was uid a is) (was other b also);
      maps = objects_later objects old.next sound.maps;
    })
  where
    was : (uid : ℕ) (segment : Segment) → segment_in (old.branches ++ branch ∷ []) uid ≡ Some segment → segment_in old.branches uid ≡ Some segment
    was uid segment is = elim (added_was old.branches branch uid segment is) [ inl before ↦ before | inr new ↦ absurd (cc) ]

-- a segment, on pages that were free and are so no longer
in_free_run : (pages : PageMap) (segment : Segment) (page : ℕ) → IsFreeRun pages (pages_for segment.words) segment.page → HasPage segment page → IsFree pages page
in_free_run pages segment page run has =
    let there : segment.page + (page - segment.page) ≡ page = omega (arith, has.0) in
    subst (IsFree pages) there (run (page - segment.page) (omega (arith, has.0, has.1)))

pub sound_made : (pages after : PageMap) (objects with : Objects) (object : Option PlainObjectMap) (old new : Listed) (branch : Branch) (made : Segment)
    → new ≡ record { branches = old.branches ++ branch ∷ []; next = 1 + old.next }
    → as_segment branch.node ≡ Some made → 1 ≤ made.words → made.words ≤ 1024 → old.next < 4294967295
    → IsFreeRun pages (pages_for made.words) made.page → made.page + pages_for made.words ≤ 1024 → after ≡ after_run pages (pages_for made.words) (Some made.page)
    → with ≡ with_object objects old.next object → gate_of object ≤ 1024
    → ((word : ℕ) (symbol : List ℕ) → defined_in object symbol ≡ Some word → word < 1024)
    → IsSound old.branches old.next pages objects → IsSound new.branches new.next after with
sound_made pages after objects with object old new branch made e node some most left run within given kept gates words sound =
    subst (λ (t : Listed). IsSound t.branches t.next after with) (sym e) (subst (λ (map : PageMap). IsSound (old.branches ++ branch ∷ []) (1 + old.next) map with) (sym given) (record {
      first = omega arith;
      last = omega arith;
      stored = λ uid segment is. elim (added_was old.branches branch uid segment is) [
        | inl before ↦ sound.stored uid segment before
        | inr new ↦ let same : made ≡ segment = cc in subst IsStored same is_stored
      ];
      taken = λ uid page segment is has free. elim (added_was old.branches branch uid segment is) [
        | inl before ↦ sound.taken uid page segment before has (was_free pages made.page (pages_for made.words) page free)
        | inr new ↦ let same : segment ≡ made = cc in taken pages made.page (pages_for made.words) page (subst (λ s. HasPage s page) same has) free
      ];
      apart = λ uid other a b is also differ page has too. elim (added_was old.branches branch uid a is) [
        | inl before ↦ elim (added_was old.branches branch other b also) [
          | inl then ↦ sound.apart uid other a b before then differ page has too
          | inr new ↦ let same : b ≡ made = cc in absurd (sound.taken uid page a before has (in_free_run pages made page run (subst (λ s. HasPage s page) same too)))
        ]
        | inr new ↦ let same : a ≡ made = cc in elim (added_was old.branches branch other b also) [
          | inl then ↦ absurd (sound.taken other page b then too (in_free_run pages made page run (subst (λ s. HasPage s page) same has)))
          | inr later ↦ absurd (differ (new.0 ∙ sym later.0))
        ]
      ];
      maps = subst (λ (o : Objects). AreObjects o (1 + old.next)) (sym kept) (objects_with objects old.next object gates words sound.maps);
    }))
  where
    is_stored : IsStored made
    is_stored = record { some = some; most = most; pages = within }

-- what is found at a uid
pub stored_at : (branches : List Branch) (next uid : ℕ) (pages : PageMap) (objects : Objects) (branch : Branch) (segment : Segment) → branch_of branches uid ≡ Some branch
    → branch.node ≡ IsSegment segment → IsSound branches next pages objects → IsStored segment
stored_at branches next uid pages objects branch segment is node sound =
    sound.stored uid segment (ap (option_and_then (λ (branch : Branch). as_segment branch.node)) is ∙ ap as_segment node)

-- a page that is given out, if there is one, is free no more, and every other is as it was
pub sound_paged : (branches : List Branch) (next : ℕ) (pages after : PageMap) (objects : Objects) → after ≡ after_run pages 1 (run_given pages 1)
    → IsSound branches next pages objects → IsSound branches next after objects
sound_paged branches next pages after objects given sound = rw given (record {
  first = sound.first;
  last = sound.last;
  stored = sound.stored;
  taken = λ uid page segment is has free. sound.taken uid page segment is has (was_free_before pages 1 page (run_given pages 1) free);
  apart = sound.apart;
  maps = sound.maps;
})

-- a page that is free is that of no segment
pub page_apart : (h : Hierarchy) (page uid : ℕ) (segment : Segment) → IsSound h.branches h.next h.pages h.objects → IsFreeRun h.pages 1 page
    → segment_at h uid ≡ Some segment → HasPage segment page → ⊥
page_apart h page uid segment sound run is has =
    let at : page + 0 ≡ page = omega arith in
    sound.taken uid page segment is has (subst (IsFree h.pages) at (run 0 (omega arith)))
