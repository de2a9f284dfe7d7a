-- Which pages a request gives out and frees: by what it leaves of the map of pages.
use Rattle.std.proofs.Common.{◌≡◌, ◌+◌, ◌-◌, ℕ, ◌<◌, eqb, Bool, true, false, cond, not, ◌&&◌, List, Option, Some, None, IfSome, Result, Ok, Err, true≢false, refl, sym, ap, subst, ◌∙◌, arith}
use Rattle.std.specs.Option.{option_map}
use Rattle.mx_acl.specs.Access.{Access, with_entry, without_entry}
use Rattle.mx_acl.specs.declared.modes.Modes.TheVariants.{Re, Rw}
use Rattle.mx_object.specs.Objects.{PlainObjectMap}
use Rattle.mx_pages.proofs.RunLaws.{set_at, is_in, given_free}
use Rattle.mx_pages.specs.Runs.{PageMap, IsFree, IsInRun, pages_for, is_free, is_in_run, run_given, after_run}
use Rattle.mx_pages.specs.declared.pages.PageRun.{PageRun}
use Rattle.mx_hier.specs.declared.branches.Directory.{Directory}
use Rattle.mx_hier.specs.declared.branches.Segment.{Segment}
use Rattle.mx_hier.specs.declared.branches.Node.TheVariants.{Directory as IsDirectory, Link as IsLink}
use Rattle.mx_hier.specs.declared.making.Place.{Place}
use Rattle.mx_hier.specs.declared.refusals.HierError.{HierError}
use Rattle.mx_hier.specs.declared.refusals.HierError.TheVariants as fault
use Rattle.mx_hier.specs.declared.refusals.Refusal.{Refusal}
use Rattle.mx_hier.specs.declared.refusals.Refusal.TheVariants.{NotADir, BadBrackets, NoPages}
use Rattle.mx_hier.specs.Branches.{Hierarchy, directory_at, segment_at}
use Rattle.mx_hier.specs.Brackets.{settable}
use Rattle.mx_hier.specs.Callers.{Caller, Subject}
use Rattle.mx_hier.specs.Changing.{with_acl, with_branch, with_directory, branch_with_acl, branch_with_directory}
use Rattle.mx_hier.specs.CreateDirectory.{create_dir, create_dir_at, create_dir_refusals, new_directory}
use Rattle.mx_hier.specs.CreateLink.{create_link, create_link_at}
use Rattle.mx_hier.specs.CreateObject.{create_object}
use Rattle.mx_hier.specs.CreateSegment.{create_seg}
use Rattle.mx_hier.specs.Delete.{delete_refusals, deleted, pages_left}
use Rattle.mx_hier.specs.DeleteAclEntry.{del_acl_refusals}
use Rattle.mx_hier.specs.InitialLists.{initial_changed, with_initial, set_iacl_refusals, del_iacl_refusals}
use Rattle.mx_hier.specs.Linkage.{page_given}
use Rattle.mx_hier.specs.MakeSegment.{IsRunFor, Wanted, make_segment, make_segment_at, make_segment_refusals, new_segment, segment_added}
use Rattle.mx_hier.specs.Making.{place, making_refusals, made, added}
use Rattle.mx_hier.specs.Rename.{rename_refusals}
use Rattle.mx_hier.specs.Rules.{Answers, first_of, required, onward, unless}
use Rattle.mx_hier.specs.SetAcl.{set_acl_refusals}
use Rattle.mx_hier.specs.SetBrackets.{set_brackets_refusals, with_brackets}
use Rattle.mx_hier.specs.SetClass.{with_class, set_class_refusals}
use Rattle.mx_hier.specs.SetDirectoryBrackets.{set_dir_brackets_refusals, with_dir_brackets, dir_bracketed}
use Rattle.mx_hier.specs.Walks.{resolved}
use Rattle.mx_kst.specs.Sections.{IsWithinPage, PlainSection}
use Rattle.mx_request.specs.declared.requests.Request.{Request}
use Rattle.mx_request.specs.declared.requests.Request.TheVariants as ask
use Rattle.mx_state.specs.Changing.{amended_at, altered_at}
use Rattle.mx_state.specs.Connecting.{with_section_page}
use Rattle.mx_state.specs.Given.{AreGiven, AreFreed}
use Rattle.mx_state.specs.NextRun.{IsApart, IsFreed, IsFreedRun, IsNext, IsNextRun, IsTaken, freed_by, one_page, run_of, section_run, unless_refused}
use Rattle.mx_state.specs.Plain.{Plain}
use Rattle.mx_state.specs.Sections.{with_page_back}

-- where the pages are as they were none is given out, and none is freed
pub none_given : (s t : Plain) → t.hierarchy.pages ≡ s.hierarchy.pages → AreGiven s t None
none_given s t same = record {
  some = tt;
  each = λ page below. sym (ap (λ (pages : PageMap). is_free s.hierarchy.pages page && not (is_free pages page)) same ∙ never (is_free s.hierarchy.pages page));
}
  where
    never : (b : Bool) → (b && not b) ≡ false
    never true = refl
    never false = refl

pub none_freed : (s t : Plain) → t.hierarchy.pages ≡ s.hierarchy.pages → AreFreed s t None
none_freed s t same = record {
  some = tt;
  each = λ page below. sym (ap (λ (pages : PageMap). not (is_free s.hierarchy.pages page) && is_free pages page) same ∙ never (is_free s.hierarchy.pages page));
}
  where
    never : (b : Bool) → (not b && b) ≡ false
    never true = refl
    never false = refl

-- after the next run was given out its pages are free no more, and every other page is as it was
module _ (before after : PageMap) (run : PageRun) (is : IsNextRun before after run) (page : ℕ) (below : page < 1024) where
  was : IsInRun run.count run.first page → IsFree before page
  was inside =
      let at : run.first + (page - run.first) ≡ page = omega (arith, inside.0) in
      subst (IsFree before) at (given_free before run.count run.first is.next (page - run.first) (omega (arith, inside.0, inside.1)))

  left : is_free after page ≡ cond (is_in_run run.count run.first page) false (is_free before page)
  left = ap (λ (pages : PageMap). is_free pages page) is.left ∙ set_at false before run.first run.count page below

  pub gives_run : is_in_run run.count run.first page ≡ (is_free before page && not (is_free after page))
  gives_run = by_tests (is_in_run run.count run.first page) (is_free before page) refl refl
      ∙ sym (ap (λ b. is_free before page && not b) left)
    where
      by_tests : (inside free : Bool) → is_in_run run.count run.first page ≡ inside → is_free before page ≡ free
          → inside ≡ (free && not (cond inside false free))
      by_tests true true i f = refl
      by_tests true false i f = absurd (true≢false (sym (was (is_in run.count run.first page i)) ∙ f))
      by_tests false true i f = refl
      by_tests false false i f = refl

  pub frees_none : false ≡ (not (is_free before page) && is_free after page)
  frees_none = by_tests (is_in_run run.count run.first page) (is_free before page) ∙ sym (ap (λ b. not (is_free before page) && b) left)
    where
      by_tests : (inside free : Bool) → false ≡ (not free && cond inside false free)
      by_tests true true = refl
      by_tests true false = refl
      by_tests false true = refl
      by_tests false false = refl

pub next_given : (s t : Plain) (run : Option PageRun) → IsNext s.hierarchy.pages t.hierarchy.pages run → AreGiven s t run
next_given s t None same = none_given s t same
next_given s t (Some run) is =
    record { some = is.is_run; each = λ page below. gives_run s.hierarchy.pages t.hierarchy.pages run is page below }

pub next_frees_none : (s t : Plain) (run : Option PageRun) → IsNext s.hierarchy.pages t.hierarchy.pages run → AreFreed s t None
next_frees_none s t None same = none_freed s t same
next_frees_none s t (Some run) is =
    record { some = tt; each = λ page below. frees_none s.hierarchy.pages t.hierarchy.pages run is page below }

-- after a run was freed its pages are free, which none was, and every other page is as it was
module _ (before after : PageMap) (run : PageRun) (is : IsFreedRun before after run) (page : ℕ) (below : page < 1024) where
  freed_then : is_free after page ≡ cond (is_in_run run.count run.first page) true (is_free before page)
  freed_then = ap (λ (pages : PageMap). is_free pages page) is.left ∙ set_at true before run.first run.count page below

  pub frees_run : is_in_run run.count run.first page ≡ (not (is_free before page) && is_free after page)
  frees_run = by_tests (is_in_run run.count run.first page) (is_free before page) refl refl
      ∙ sym (ap (λ b. not (is_free before page) && b) freed_then)
    where
      by_tests : (inside free : Bool) → is_in_run run.count run.first page ≡ inside → is_free before page ≡ free
          → inside ≡ (not free && cond inside true free)
      by_tests true false i f = refl
      by_tests true true i f = absurd (is.was.taken page (is_in run.count run.first page i) f)
      by_tests false true i f = refl
      by_tests false false i f = refl

  pub gives_none : false ≡ (is_free before page && not (is_free after page))
  gives_none = by_tests (is_in_run run.count run.first page) (is_free before page)
      ∙ sym (ap (λ b. is_free before page && not b) freed_then)
    where
      by_tests : (inside free : Bool) → false ≡ (free && not (cond inside true free))
      by_tests true true = refl
      by_tests true false = refl
      by_tests false true = refl
      by_tests false false = refl

pub run_freed : (s t : Plain) (run : Option PageRun) → IsFreed s.hierarchy.pages t.hierarchy.pages run → AreFreed s t run
run_freed s t None same = none_freed s t same
run_freed s t (Some run) is =
    record { some = is.was.is_run; each = λ page below. frees_run s.hierarchy.pages t.hierarchy.pages run is page below }

pub freeing_gives_none : (s t : Plain) (run : Option PageRun) → IsFreed s.hierarchy.pages t.hierarchy.pages run → AreGiven s t None
freeing_gives_none s t None same = none_given s t same
freeing_gives_none s t (Some run) is =
    record { some = tt; each = λ page below. gives_none s.hierarchy.pages t.hierarchy.pages run is page below }

-- a linkage section is on the page that is given out
pub section_next : (h : Hierarchy) (section : Option PlainSection) → IfSome section (λ s. page_given h ≡ Some s.page)
    → IfSome section (λ s. IsWithinPage s.page s.words) → IsNext h.pages (with_section_page h section).pages (section_run h section)
section_next h None given within = refl
section_next h (Some section) given within =
    subst (λ (o : Option ℕ). IsNext h.pages (after_run h.pages 1 o) (option_map one_page o)) (sym given) (record {
      next = given;
      left = refl;
      is_run = record { some = omega arith; most = omega arith; within = omega (arith, within.last_page) };
    })

-- and that page is freed where the section is taken away
pub section_freed : (h : Hierarchy) (page : Option ℕ) → IfSome page (IsApart h) → IsFreed h.pages (with_page_back h page).pages (option_map one_page page)
section_freed h None apart = refl
section_freed h (Some page) apart = record {
  was = record {
    is_run = record { some = omega arith; most = omega arith; within = omega (arith, apart.within) };
    taken = λ other inside free.
        let same : other ≡ page = omega (arith, inside.0, inside.1) in
        true≢false (sym free ∙ ap (is_free h.pages) same ∙ apart.taken);
  };
  left = refl;
}

-- what is so of the hierarchy that a request leaves, where it is not refused
abbrev pub Ends : (Hierarchy → Type 0) → Result Hierarchy Refusal → Type 0
Ends so meant = (k : Hierarchy) → meant ≡ Ok k → so k

ends_ok : (so : Hierarchy → Type 0) (k : Hierarchy) → so k → Ends so (Ok k)
ends_ok so k is = λ l e. let same : k ≡ l = cc in subst so same is

pub ends_onward : {A : Type 0} (so : Hierarchy → Type 0) (given : Result A Refusal) (rest : A → Result Hierarchy Refusal)
    → ((value : A) → Ends so (rest value)) → Ends so (onward given rest)
ends_onward so (Ok value) rest ends = ends value
ends_onward so (Err why) rest ends = λ k e. cc

ends_unless : (so : Hierarchy → Type 0) (k : Hierarchy) (why : Option Refusal) → so k → Ends so (unless why k)
ends_unless so k None is = ends_ok so k is
ends_unless so k (Some why) is = λ l e. cc

ends_made : (so : Hierarchy → Type 0) (h : Hierarchy) (at : Place) (refusals : List (Bool × Refusal)) (make : Directory → Result Hierarchy Refusal)
    → ((parent : Directory) → Ends so (make parent)) → Ends so (made h at refusals make)
ends_made so h at refusals make ends =
    ends_onward so (unless (first_of refusals) at) (λ at. onward (required NotADir (directory_at h at.dir)) make)
    (λ at. ends_onward so (required NotADir (directory_at h at.dir)) make ends)

-- what follows where a run of pages is given
ends_given : (so : Hierarchy → Type 0) (given : Option ℕ) (rest : ℕ → Result Hierarchy Refusal)
    → ((page : ℕ) → given ≡ Some page → Ends so (rest page)) → Ends so (onward (required NoPages given) rest)
ends_given so (Some page) rest ends = ends page refl
ends_given so None rest ends = λ k e. cc

-- the pages are as they were
abbrev pub KeepsPages : Hierarchy → Hierarchy → Type 0
KeepsPages h k = k.pages ≡ h.pages

-- whatever the call came to
pub pages_kept : {A : Type 0} (meant : Result Hierarchy Refusal) (h k : Hierarchy) (call : Result A HierError) → Answers meant h call k
    → Ends (KeepsPages h) meant → k.pages ≡ h.pages
pages_kept meant h k (Ok value) says keeps = keeps k says
pages_kept meant h k (Err (fault.Refused why)) says keeps = ap (λ (h : Hierarchy). h.pages) says.1
pages_kept meant h k (Err fault.Memory) says keeps = ap (λ (h : Hierarchy). h.pages) says

-- a run that the request was to free is freed, unless it is refused
pub pages_freed : {A : Type 0} (meant : Result Hierarchy Refusal) (h k : Hierarchy) (call : Result A HierError) (run : Option PageRun)
    → Answers meant h call k → Ends (λ (k : Hierarchy). IsFreed h.pages k.pages run) meant → IsFreed h.pages k.pages (unless_refused call run)
pages_freed meant h k (Ok value) run says frees = frees k says
pages_freed meant h k (Err (fault.Refused why)) run says frees = ap (λ (h : Hierarchy). h.pages) says.1
pages_freed meant h k (Err fault.Memory) run says frees = ap (λ (h : Hierarchy). h.pages) says

-- the requests that make an entry: a directory or a link lies on no page
pub create_dir_keeps : (h : Hierarchy) (who : Caller) (path : List ℕ) (d1 d2 : ℕ) → Ends (KeepsPages h) (create_dir h who path d1 d2)
create_dir_keeps h who path d1 d2 =
    ends_onward (KeepsPages h) (resolved who path) (λ path. onward (place h who.subject path) (λ at. create_dir_at h who.subject at d1 d2))
    (λ path. ends_onward (KeepsPages h) (place h who.subject path) (λ at. create_dir_at h who.subject at d1 d2)
    (λ at. ends_made (KeepsPages h) h at (create_dir_refusals h who.subject at d1 d2)
    (λ parent. Ok (added h at (IsDirectory (new_directory parent who.subject d1 d2))))
    (λ parent. ends_ok (KeepsPages h) (added h at (IsDirectory (new_directory parent who.subject d1 d2))) refl)))

pub create_link_keeps : (h : Hierarchy) (who : Caller) (path target : List ℕ) → Ends (KeepsPages h) (create_link h who path target)
create_link_keeps h who path target =
    ends_onward (KeepsPages h) (resolved who path)
    (λ path. onward (resolved who target) (λ target. onward (place h who.subject path) (λ at. create_link_at h who.subject at target)))
    (λ path. ends_onward (KeepsPages h) (resolved who target)
    (λ target. onward (place h who.subject path) (λ at. create_link_at h who.subject at target))
    (λ target. ends_onward (KeepsPages h) (place h who.subject path) (λ at. create_link_at h who.subject at target)
    (λ at. ends_made (KeepsPages h) h at (making_refusals h who.subject at) (λ parent. Ok (added h at (IsLink target)))
    (λ parent. ends_ok (KeepsPages h) (added h at (IsLink target)) refl))))

-- a segment lies on the run that was next
abbrev pub TakesRun : Hierarchy → ℕ → Hierarchy → Type 0
TakesRun h words k = k.pages ≡ after_run h.pages (pages_for words) (run_given h.pages (pages_for words))

pub make_segment_takes : (h : Hierarchy) (who : Caller) (path : List ℕ) (wanted : Wanted) → Ends (TakesRun h wanted.words) (make_segment h who path wanted)
make_segment_takes h who path wanted =
    let so = TakesRun h wanted.words in
    ends_onward so (resolved who path) (λ path. onward (place h who.subject path) (λ at. make_segment_at h who.subject at wanted))
    (λ path. ends_onward so (place h who.subject path) (λ at. make_segment_at h who.subject at wanted)
    (λ at. ends_made so h at (make_segment_refusals h who.subject at wanted)
    (λ parent. onward (required BadBrackets (settable who.subject.ring wanted.rings)) (λ brackets.
    onward (required NoPages (run_given h.pages (pages_for wanted.words))) (λ page.
    Ok (segment_added h at (new_segment parent who.subject wanted.words brackets wanted.modes page) wanted.object))))
    (λ parent. ends_onward so (required BadBrackets (settable who.subject.ring wanted.rings))
    (λ brackets. onward (required NoPages (run_given h.pages (pages_for wanted.words))) (λ page.
    Ok (segment_added h at (new_segment parent who.subject wanted.words brackets wanted.modes page) wanted.object)))
    (λ brackets. ends_given so (run_given h.pages (pages_for wanted.words))
    (λ page. Ok (segment_added h at (new_segment parent who.subject wanted.words brackets wanted.modes page) wanted.object))
    (λ page given. ends_ok so (segment_added h at (new_segment parent who.subject wanted.words brackets wanted.modes page) wanted.object)
    (sym (ap (after_run h.pages (pages_for wanted.words)) given)))))))

next_for : (h k : Hierarchy) (words : ℕ) (run : PageRun) → IsRunFor h.pages words run → TakesRun h words k → IsNextRun h.pages k.pages run
next_for h k words run is takes = record {
  next = is.next;
  left = takes ∙ ap (λ n. after_run h.pages n (run_given h.pages n)) (sym is.count) ∙ ap (after_run h.pages run.count) is.next;
  is_run = is.is_run;
}

pub create_seg_next : (h k : Hierarchy) (who : Caller) (path : List ℕ) (words : ℕ) (rings : List ℕ) (run : PageRun)
    → create_seg h who path words rings ≡ Ok k → IsRunFor h.pages words run → IsNextRun h.pages k.pages run
create_seg_next h k who path words rings run e is =
    next_for h k words run is (make_segment_takes h who path (record { words = words; rings = rings; modes = Rw; object = None }) k e)

pub create_object_next : (h k : Hierarchy) (who : Caller) (path : List ℕ) (words : ℕ) (rings : List ℕ) (object : PlainObjectMap) (run : PageRun)
    → create_object h who path words rings object ≡ Ok k → IsRunFor h.pages words run → IsNextRun h.pages k.pages run
create_object_next h k who path words rings object run e is =
    next_for h k words run is (make_segment_takes h who path (record { words = words; rings = rings; modes = Re; object = Some object }) k e)

-- the requests that change an entry
directory_keeps : (h : Hierarchy) (uid : ℕ) (f : Directory → Directory) → KeepsPages h (with_directory h uid f)
directory_keeps h uid f = by_root (eqb uid 0)
  where
    by_root : (root : Bool) → (cond root (record h { root = f h.root }) (with_branch h uid (branch_with_directory f))).pages ≡ h.pages
    by_root true = refl
    by_root false = refl

acl_keeps : (h : Hierarchy) (uid : ℕ) (f : Access → Access) → KeepsPages h (with_acl h uid f)
acl_keeps h uid f = by_root (eqb uid 0)
  where
    by_root : (root : Bool) → (cond root (record h { root = record h.root { acl = f h.root.acl } }) (with_branch h uid (branch_with_acl f))).pages ≡ h.pages
    by_root true = refl
    by_root false = refl

pub amended_keeps : (h : Hierarchy) (who : Subject) (uid : ℕ) (request : Request) → Ends (KeepsPages h) (amended_at h who uid request)
amended_keeps h who uid (ask.Rename path name) =
    ends_unless (KeepsPages h) (with_branch h uid (λ branch. record branch { name = name })) (first_of (rename_refusals h who uid name)) refl
amended_keeps h who uid (ask.SetIacl path kind id modes) =
    ends_unless (KeepsPages h) (with_initial h uid kind (λ initial. with_entry initial id modes)) (first_of (set_iacl_refusals h who uid kind id modes))
    (directory_keeps h uid (initial_changed kind (λ initial. with_entry initial id modes)))
amended_keeps h who uid (ask.DelIacl path kind id) =
    ends_unless (KeepsPages h) (with_initial h uid kind (λ initial. without_entry initial id)) (first_of (del_iacl_refusals h who uid kind id))
    (directory_keeps h uid (initial_changed kind (λ initial. without_entry initial id)))
amended_keeps h who uid (ask.SetDirBrackets path d1 d2) =
    ends_unless (KeepsPages h) (with_dir_brackets h uid d1 d2) (first_of (set_dir_brackets_refusals h who uid d1 d2))
    (directory_keeps h uid (dir_bracketed d1 d2))
amended_keeps h who uid other = ends_ok (KeepsPages h) h refl

brackets_keep : (h : Hierarchy) (who : Subject) (uid : ℕ) (rings : List ℕ) (why : Option Refusal)
    → Ends (KeepsPages h) (onward (unless why uid) (λ uid. onward (required BadBrackets (settable who.ring rings)) (λ brackets. Ok (with_brackets h uid brackets))))
brackets_keep h who uid rings why =
    ends_onward (KeepsPages h) (unless why uid) (λ uid. onward (required BadBrackets (settable who.ring rings)) (λ brackets. Ok (with_brackets h uid brackets)))
    (λ uid. ends_onward (KeepsPages h) (required BadBrackets (settable who.ring rings)) (λ brackets. Ok (with_brackets h uid brackets))
    (λ brackets. ends_ok (KeepsPages h) (with_brackets h uid brackets) refl))

-- the pages of a segment that is deleted
deleted_frees : (h : Hierarchy) (o : Option Segment) → IfSome (option_map run_of o) (IsTaken h.pages)
    → IsFreed h.pages (pages_left h.pages o) (option_map run_of o)
deleted_frees h None taken = refl
deleted_frees h (Some segment) taken = record { was = taken; left = refl }

-- `delete` frees the pages of the segment, and the others no page
pub altered_frees : (h : Hierarchy) (who : Subject) (uid : ℕ) (request : Request) → IfSome (freed_by h uid request) (IsTaken h.pages)
    → Ends (λ (k : Hierarchy). IsFreed h.pages k.pages (freed_by h uid request)) (altered_at h who uid request)
altered_frees h who uid (ask.Delete path) taken =
    ends_unless (λ (k : Hierarchy). IsFreed h.pages k.pages (option_map run_of (segment_at h uid))) (deleted h uid) (first_of (delete_refusals h who uid))
    (deleted_frees h (segment_at h uid) taken)
altered_frees h who uid (ask.SetAcl path id modes) taken =
    ends_unless (KeepsPages h) (with_acl h uid (λ acl. with_entry acl id modes)) (first_of (set_acl_refusals h who uid id modes))
    (acl_keeps h uid (λ acl. with_entry acl id modes))
altered_frees h who uid (ask.DelAcl path id) taken =
    ends_unless (KeepsPages h) (with_acl h uid (λ acl. without_entry acl id)) (first_of (del_acl_refusals h who uid id))
    (acl_keeps h uid (λ acl. without_entry acl id))
altered_frees h who uid (ask.SetBrackets path brackets) taken = brackets_keep h who uid brackets (first_of (set_brackets_refusals h who uid brackets))
altered_frees h who uid (ask.SetClass path class) taken =
    ends_unless (KeepsPages h) (with_class h uid class) (first_of (set_class_refusals h who uid class)) refl
altered_frees h who uid other taken = ends_ok (KeepsPages h) h refl
