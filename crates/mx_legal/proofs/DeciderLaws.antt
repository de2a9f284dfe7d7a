-- The deciders of rules together.
use Rattle.std.proofs.Common.{◌≡◌, ◌↔◌, inl, inr, ℕ, zero, suc, ◌<◌, ◌≤◌, ◌==◌, Bool, true, false, IsTrue, List, [], ◌∷◌, length, map, take, Option, Some, None, Result, IfOk, refl, ap, sym, ◌∙◌, subst, arith, slice_get}
use Rattle.std.proofs.lemmas.Bool.{cases_eq, cases_lt}
use Rattle.std.proofs.lemmas.List.{append-nil, length-map, take_all}
use Rattle.std.specs.List.{All}
use Rattle.std.specs.Prelude.{get_or}
use Rattle.std.proofs.lemmas.List.Elements.{All-head, All-tail}
use Rattle.std.proofs.lemmas.Result.{IfOk-weaker}
use Rattle.mx_access.specs.Answers.{judged_on}
use Rattle.mx_parts.specs.FirstBad.{AreBeside, AreKept, IsFirstBadLine}
use Rattle.mx_points.specs.Fronts.{AreSetupLinesTo}
use Rattle.mx_sdw.specs.Admissible.{IsAdmissible}
use Rattle.mx_sdw.specs.Descriptors.{Descriptor}
use Rattle.mx_transcript.specs.Access.{descriptor_of}
use Rattle.mx_transcript.specs.Legal.{setting_of}
use Rattle.mx_transcript.specs.Openings.{opening_control}
use Rattle.mx_transcript.specs.References.{cell_of}
use Rattle.mx_transcript.specs.Scripts.{lines_of}
use Rattle.mx_transcript.specs.Uses.{use_of}
use Rattle.mx_legal.specs.Breach.{HasNamed}
use Rattle.mx_legal.specs.Deciding.{is_whole}
use Rattle.mx_legal.proofs.LegalLaws.{no_part}
use Rattle.mx_access.specs.Answers.{ChangedLaw, is_changed, missed_changed}
use Rattle.mx_core.specs.declared.elements.Element.{Element}
use Rattle.mx_core.specs.declared.elements.Event.TheVariants.{Seen, Missing}
use Rattle.mx_core.specs.declared.elements.Outcome.{Outcome}
use Rattle.mx_core.specs.declared.elements.Outcome.TheVariants as outcome
use Rattle.mx_points.specs.Fronts.{AreChanges, AreNamedTo, ArePointsTo, AreRightMissesTo, IsBadAt, IsFirstBad, IsNaming}
use Rattle.mx_points.specs.declared.naming.Naming.{Naming}
use Rattle.mx_points.specs.declared.naming.Naming.TheVariants.{Whole, Short, Misnamed}
use Rattle.mx_reads.specs.Deeds.{CellUse, Deed, Deeds, Misses}
use Rattle.mx_script.specs.Sessions.{Outline}
use Rattle.mx_state.specs.declared.journal.Entry as journaled
use Rattle.mx_stores.specs.Least.{least}
use Rattle.mx_transcript.specs.Legal.{deeds, setup_entries}
use Rattle.mx_transcript.specs.Misses.{IsChanged}
use Rattle.mx_transcript.specs.References.{deed_by, reference}
use Rattle.mx_transcript.specs.Transcripts.{Step, entries_named, events_of, numbers_of, part}
use Rattle.mx_transcript.specs.declared.transcripts.Event2.{Event2}
use Rattle.mx_transcript.specs.declared.transcripts.Event2.TheVariants.{Core, Entry}
use Rattle.mx_legal.specs.Deciding.{AreInitialTo, AreOwnReadsTo, AreRightDeedsTo, AreRightLinesTo, misnamed}
use Rattle.mx_legal.specs.Fronts.{AreDoneTo, HasNoEarlyFullTo, IsGoodTo, events_to}
use Rattle.mx_legal.proofs.FirstLaws.{Both, IsInherited, both_first, both_inherited, by_lines, in_other_words}
use Rattle.mx_legal.proofs.FrontLaws.{fewer_events, fewer_lines, fewer_named}
use Rattle.mx_legal.specs.Deciding.{IsLineOfEvent}

some_same : {A : Type 0} {a b : A} → Some a ≡ Some b → a ≡ b
some_same e = cc

-- a reference is no miss
no_miss : (cell : Option CellUse) (came : Outcome) (point segno by : ℕ) → reference cell came point ≡ Misses segno by → ⊥
no_miss (Some cell) (outcome.Read value writer stamp) point segno by e = cc
no_miss (Some cell) (outcome.Written value) point segno by e = cc
no_miss (Some cell) (outcome.Entered ring) point segno by e = cc
no_miss (Some cell) (outcome.Denied denial) point segno by e = cc
no_miss None (outcome.Read value writer stamp) point segno by e = cc
no_miss None (outcome.Written value) point segno by e = cc
no_miss None (outcome.Entered ring) point segno by e = cc
no_miss None (outcome.Denied denial) point segno by e = cc

same_segno : {segno by segno' by' : ℕ} → Misses segno by ≡ Misses segno' by' → segno ≡ segno'
same_segno e = cc

same_by : {segno by segno' by' : ℕ} → Misses segno by ≡ Misses segno' by' → by ≡ by'
same_by e = cc

-- beside each miss stands whether its entry changed the pair
module _ (law : ChangedLaw) (session : Outline) (journal : List journaled.Entry) (p : ℕ) (cell : Element → Option CellUse) where
  each_change : (events : List Event2) (place segno by : ℕ) → slice_get (map (deed_by cell) events) place ≡ Some (Misses segno by)
      → (slice_get (map (missed_changed (is_changed session journal p)) events) place ≡ Some true) ↔ IsChanged session journal p segno by
  each_change [] place segno by at = absurd cc
  each_change (Entry number ∷ events) zero segno by at = absurd cc
  each_change (Core (Seen element) ∷ events) zero segno by at =
      absurd (no_miss (cell element) element.outcome element.point segno by (some_same at))
  each_change (Core (Missing segno' by') ∷ events) zero segno by at =
      let changed = law session journal p segno by in
      let here : is_changed session journal p segno' by' ≡ is_changed session journal p segno by =
      ap (λ (n : ℕ). is_changed session journal p n by') (same_segno (some_same at))
      ∙ ap (is_changed session journal p segno) (same_by (some_same at)) in (
        λ told. changed.0 (sym here ∙ some_same told),
        λ is. ap Some (here ∙ changed.1 is),
      )
  each_change (event ∷ events) (suc place) segno by at = each_change events place segno by at

pub are_changes : (law : ChangedLaw) (session : Outline) (journal : List journaled.Entry) (p : ℕ) (cell : Element → Option CellUse)
    (events : List Event2) (own : List Deed) (changes : List Bool) → own ≡ map (deed_by cell) events
    → changes ≡ map (missed_changed (is_changed session journal p)) events → AreChanges session journal p own changes
are_changes law session journal p cell events own changes deeds_are changes_are =
    subst (λ (d : List Deed). AreChanges session journal p d changes) (sym deeds_are)
    (subst (λ (c : List Bool). AreChanges session journal p (map (deed_by cell) events) c) (sym changes_are)
    (each_change law session journal p cell events))

-- the rules on deeds
module _ (session : Outline) (journal : List journaled.Entry) (transcripts : List (List Step)) (p : ℕ) where
  abbrev own_deeds : List Deed
  own_deeds = deeds session journal transcripts p

  abbrev Reads : ℕ → Type 0
  Reads = AreOwnReadsTo session journal transcripts p

  abbrev Missing' : List Deed → ℕ → Type 0
  Missing' own = AreRightMissesTo journal (IsChanged session journal p) p own

  abbrev Pointing : List Deed → ℕ → Type 0
  Pointing own = ArePointsTo (setup_entries session) (length journal) own

  fewer_reads : IsInherited Reads
  fewer_reads j k l are =
      record { source = are.source; right = λ read has same below. are.right read has same (omega (arith, below, l)) }

  fewer_misses : (own : List Deed) → IsInherited (Missing' own)
  fewer_misses own j k l are = λ place segno by below at. are place segno by (omega (arith, below, l)) at

  fewer_points : (own : List Deed) → IsInherited (Pointing own)
  fewer_points own j k l are = λ place deed q below at point. are place deed q (omega (arith, below, l)) at point

  fewer_deeds : IsInherited (AreRightDeedsTo session journal transcripts p)
  fewer_deeds j k l are = record {
    reads = fewer_reads j k l are.reads;
    misses = fewer_misses own_deeds j k l are.misses;
    points = fewer_points own_deeds j k l are.points;
  }

  pub first_deed : (own : List Deed) → own ≡ own_deeds → (read miss point : Option ℕ) → IsFirstBad Reads (length own_deeds) read
      → IsFirstBad (Missing' own) (length own) miss → IsFirstBad (Pointing own) (length own) point
      → IsFirstBad (AreRightDeedsTo session journal transcripts p) (length own_deeds) (least read (least miss point))
  first_deed own is read miss point reads misses points =
      in_other_words (Both Reads (Both (Missing' own_deeds) (Pointing own_deeds))) (AreRightDeedsTo session journal transcripts p)
      (length own_deeds)
      (λ n are. record { reads = are.0; misses = are.1.0; points = are.1.1 })
      (λ n are. (are.reads, (are.misses, are.points)))
      (least read (least miss point))
      (both_first Reads (Both (Missing' own_deeds) (Pointing own_deeds)) (length own_deeds) fewer_reads
      (both_inherited (Missing' own_deeds) (Pointing own_deeds) (fewer_misses own_deeds) (fewer_points own_deeds))
      read (least miss point) reads
      (both_first (Missing' own_deeds) (Pointing own_deeds) (length own_deeds) (fewer_misses own_deeds) (fewer_points own_deeds) miss point
      (subst (λ (d : List Deed). IsFirstBad (Missing' d) (length d) miss) is misses)
      (subst (λ (d : List Deed). IsFirstBad (Pointing d) (length d) point) is points)))

  -- the rules on lines
  fewer_initial : (steps : List Step) → IsInherited (AreInitialTo session p steps)
  fewer_initial steps j k l are = λ first place step below at. are first place step (omega (arith, below, l)) at

  fewer_full : (steps : List Step) → IsInherited (HasNoEarlyFullTo steps)
  fewer_full steps j k l are = λ place later full step below at ended after there.
      are place later full step (omega (arith, below, l)) at ended after there

  pub first_step : (steps : List Step) (undone named initial full : Option ℕ)
      → IsFirstBad (AreDoneTo session journal p steps) (length steps) undone
      → IsFirstBad (AreNamedTo journal p steps) (length steps) named
      → IsFirstBad (AreInitialTo session p steps) (length steps) initial → IsFirstBad (HasNoEarlyFullTo steps) (length steps) full
      → IsFirstBad (AreRightLinesTo session journal p steps) (length steps) (least (least undone named) (least initial full))
  first_step steps undone named initial full lines names initials fulls =
      in_other_words
      (Both (Both (AreDoneTo session journal p steps) (AreNamedTo journal p steps)) (Both (AreInitialTo session p steps) (HasNoEarlyFullTo steps)))
      (AreRightLinesTo session journal p steps) (length steps)
      (λ n are. record { lines = are.0.0; named = are.0.1; setup = are.1.0; no_early_full = are.1.1 })
      (λ n are. ((are.lines, are.named), (are.setup, are.no_early_full)))
      (least (least undone named) (least initial full))
      (both_first (Both (AreDoneTo session journal p steps) (AreNamedTo journal p steps)) (Both (AreInitialTo session p steps) (HasNoEarlyFullTo steps))
      (length steps)
      (both_inherited (AreDoneTo session journal p steps) (AreNamedTo journal p steps) (fewer_lines session journal p steps) (fewer_named journal p steps))
      (both_inherited (AreInitialTo session p steps) (HasNoEarlyFullTo steps) (fewer_initial steps) (fewer_full steps))
      (least undone named) (least initial full)
      (both_first (AreDoneTo session journal p steps) (AreNamedTo journal p steps) (length steps) (fewer_lines session journal p steps)
      (fewer_named journal p steps) undone named lines names)
      (both_first (AreInitialTo session p steps) (HasNoEarlyFullTo steps) (length steps) (fewer_initial steps) (fewer_full steps) initial full
      initials fulls))

  fewer_steps : (steps : List Step) → IsInherited (AreRightLinesTo session journal p steps)
  fewer_steps steps j k l are = record {
    lines = fewer_lines session journal p steps j k l are.lines;
    named = fewer_named journal p steps j k l are.named;
    setup = fewer_initial steps j k l are.setup;
    no_early_full = fewer_full steps j k l are.no_early_full;
  }

  -- both
  abbrev DeedsOf : ℕ → Type 0
  DeedsOf k = AreRightDeedsTo session journal transcripts p (events_to (part transcripts p) k)

  fewer_of : IsInherited DeedsOf
  fewer_of j k l are = fewer_deeds (events_to (part transcripts p) j) (events_to (part transcripts p) k) (fewer_events (part transcripts p) j k l) are

  initial_is : (k : ℕ) → AreInitialTo session p (part transcripts p) k → p ≡ 0 → AreInitialTo session p (part transcripts 0) k
  initial_is k are first = subst (λ (q : ℕ). AreInitialTo session p (part transcripts q) k) first are

  initial_was : (k : ℕ) → (p ≡ 0 → AreInitialTo session p (part transcripts 0) k) → AreInitialTo session p (part transcripts p) k
  initial_was k are = λ first. subst (λ (q : ℕ). AreInitialTo session p (part transcripts q) k) (sym first) (are first) first

  first_good : (step event line : Option ℕ) → IsFirstBad (AreRightLinesTo session journal p (part transcripts p)) (length (part transcripts p)) step
      → IsFirstBad (AreRightDeedsTo session journal transcripts p) (length own_deeds) event → IsLineOfEvent (part transcripts p) event line
      → IsFirstBad (IsGoodTo session journal transcripts p) (length (part transcripts p)) (least step line)
  first_good step event line steps events of =
      in_other_words (Both (AreRightLinesTo session journal p (part transcripts p)) DeedsOf) (IsGoodTo session journal transcripts p)
      (length (part transcripts p))
      (λ n are. record {
        lines = are.0.lines;
        named = are.0.named;
        setup = λ first. initial_is n are.0.setup first first;
        no_early_full = are.0.no_early_full;
        misses = are.1.misses;
        points = are.1.points;
        reads = are.1.reads;
      })
      (λ n good. (
        record {
          lines = good.lines;
          named = good.named;
          setup = initial_was n (λ first. λ again. good.setup first);
          no_early_full = good.no_early_full;
        },
        record { reads = good.reads; misses = good.misses; points = good.points },
      ))
      (least step line)
      (both_first (AreRightLinesTo session journal p (part transcripts p)) DeedsOf (length (part transcripts p)) (fewer_steps (part transcripts p)) fewer_of step line steps
      (by_lines (AreRightDeedsTo session journal transcripts p) (part transcripts p) fewer_deeds event line of
      (subst (λ (n : ℕ). IsFirstBad (AreRightDeedsTo session journal transcripts p) n event) count events)))
    where
      count : length own_deeds ≡ length (events_of (part transcripts p))
      count = length-map (events_of (part transcripts p)) _

-- of another list that is the part
pub first_of_part : (session : Outline) (journal : List journaled.Entry) (transcripts : List (List Step)) (p : ℕ) (steps : List Step)
    → steps ≡ part transcripts p → (step event line : Option ℕ) → IsFirstBad (AreRightLinesTo session journal p steps) (length steps) step
    → IsFirstBad (AreRightDeedsTo session journal transcripts p) (length (deeds session journal transcripts p)) event
    → IsLineOfEvent steps event line → IsFirstBad (IsGoodTo session journal transcripts p) (length steps) (least step line)
first_of_part session journal transcripts p steps is step event line first events of =
    subst (λ (s : List Step). IsFirstBad (IsGoodTo session journal transcripts p) (length s) (least step line)) (sym is)
    (first_good session journal transcripts p step event line
    (subst (λ (s : List Step). IsFirstBad (AreRightLinesTo session journal p s) (length s) step) is first) events
    (subst (λ (s : List Step). IsLineOfEvent s event line) is of))

-- how lines name entries
pub first_misnamed : (journal : List journaled.Entry) (p : ℕ) (steps : List Step) (naming : Naming) → IsNaming journal p steps naming
    → IsFirstBad (AreNamedTo journal p steps) (length steps) (misnamed naming)
first_misnamed journal p steps Whole is = record {
  later = [];
  named = sym is ∙ ap (λ (s : List Step). entries_named (events_of s)) (sym (take_all (length steps) steps (omega arith)))
      ∙ sym (append-nil (entries_named (events_of (take (length steps) steps))));
}
first_misnamed journal p steps Short is = is.0
first_misnamed journal p steps (Misnamed place) is = is

-- of another naming
pub is_named : (journal : List journaled.Entry) (transcripts : List (List Step)) (p : ℕ) (steps : List Step) (naming : Naming)
    → steps ≡ part transcripts p → IsNaming journal p steps naming → IsTrue (is_whole naming) ↔ HasNamed journal transcripts p
is_named journal transcripts p steps Whole same is =
    let named = subst (λ (s : List Step). entries_named (events_of s) ≡ numbers_of p journal) same is in (λ t. named, λ h. refl)
is_named journal transcripts p steps Short same is = (
  λ t. absurd cc,
  λ h. absurd (is.1 (subst (λ (s : List Step). entries_named (events_of s) ≡ numbers_of p journal) (sym same) h)),
)
is_named journal transcripts p steps (Misnamed place) same is = (
  λ t. absurd cc,
  λ h.
      let within = is.within in
      absurd (is.bad (fewer_named journal p steps (suc place) (length steps) within
      (first_misnamed journal p steps Whole (subst (λ (s : List Step). entries_named (events_of s) ≡ numbers_of p journal) (sym same) h)))),
)

pub deed_found : (law : ChangedLaw) (session : Outline) (journal : List journaled.Entry) (transcripts : List (List Step)) (p : ℕ)
    (own : List Deed) (changes : List Bool) (setup entries : ℕ) (read miss point second found : Option ℕ)
    → own ≡ deeds session journal transcripts p
    → changes ≡ map (missed_changed (is_changed session journal p)) (events_of (part transcripts p))
    → setup ≡ setup_entries session → entries ≡ length journal
    → IsFirstBad (AreOwnReadsTo session journal transcripts p) (length (deeds session journal transcripts p)) read
    → ((s : Outline) → AreChanges s journal p own changes
    → IsFirstBad (AreRightMissesTo journal (IsChanged s journal p) p own) (length own) miss)
    → IsFirstBad (ArePointsTo setup entries own) (length own) point → second ≡ least miss point → found ≡ least read second
    → IsFirstBad (AreRightDeedsTo session journal transcripts p) (length (deeds session journal transcripts p)) found
deed_found law session journal transcripts p own changes setup entries read miss point second found own_is changes_are setup_is entries_are
    reads misses points second_is found_is =
    subst (IsFirstBad (AreRightDeedsTo session journal transcripts p) (length (deeds session journal transcripts p)))
    (sym (found_is ∙ ap (least read) second_is))
    (first_deed session journal transcripts p own own_is read miss point reads
    (misses session (are_changes law session journal p (cell_of (use_of session journal) (descriptor_of session journal p))
    (events_of (part transcripts p)) own changes own_is changes_are))
    (subst (λ (n : ℕ). IsFirstBad (ArePointsTo n (length journal) own) (length own) point) setup_is
    (subst (λ (n : ℕ). IsFirstBad (ArePointsTo setup n own) (length own) point) entries_are points)))

-- the miss rule and the point rule alone
pub miss_found : {Y : Type 0} (law : ChangedLaw) (session : Outline) (journal : List journaled.Entry) (transcripts : List (List Step)) (p : ℕ)
    (own : List Deed) (changes : List Bool) (r : Result (Option ℕ) Y) → own ≡ deeds session journal transcripts p
    → changes ≡ map (missed_changed (is_changed session journal p)) (events_of (part transcripts p))
    → IfOk r (λ miss. (s : Outline) → AreChanges s journal p own changes
    → IsFirstBad (AreRightMissesTo journal (IsChanged s journal p) p own) (length own) miss)
    → IfOk r (IsFirstBad (AreRightMissesTo journal (IsChanged session journal p) p (deeds session journal transcripts p))
    (length (deeds session journal transcripts p)))
miss_found law session journal transcripts p own changes r own_is changes_are misses =
    subst (λ (d : List Deed). IfOk r (IsFirstBad (AreRightMissesTo journal (IsChanged session journal p) p d) (length d))) own_is
    (IfOk-weaker r (λ miss. (s : Outline) → AreChanges s journal p own changes
    → IsFirstBad (AreRightMissesTo journal (IsChanged s journal p) p own) (length own) miss)
    (IsFirstBad (AreRightMissesTo journal (IsChanged session journal p) p own) (length own))
    (λ miss found. found session (are_changes law session journal p (cell_of (use_of session journal) (descriptor_of session journal p))
    (events_of (part transcripts p)) own changes own_is changes_are))
    misses)

pub point_found : (session : Outline) (journal : List journaled.Entry) (transcripts : List (List Step)) (p : ℕ) (own : List Deed)
    (setup entries : ℕ) (point : Option ℕ) → own ≡ deeds session journal transcripts p → setup ≡ setup_entries session
    → entries ≡ length journal → IsFirstBad (ArePointsTo setup entries own) (length own) point
    → IsFirstBad (ArePointsTo (setup_entries session) (length journal) (deeds session journal transcripts p))
    (length (deeds session journal transcripts p)) point
point_found session journal transcripts p own setup entries point own_is setup_is entries_are points =
    subst (λ (d : List Deed). IsFirstBad (ArePointsTo (setup_entries session) (length journal) d) (length d) point) own_is
    (subst (λ (n : ℕ). IsFirstBad (ArePointsTo n (length journal) own) (length own) point) setup_is
    (subst (λ (n : ℕ). IsFirstBad (ArePointsTo setup n own) (length own) point) entries_are points))

pub initial_first : (session : Outline) (p setup : ℕ) (steps : List Step) (found : Option ℕ) → p ≡ 0 → setup ≡ setup_entries session
    → IsFirstBad (AreSetupLinesTo setup steps) (length steps) found → IsFirstBad (AreInitialTo session p steps) (length steps) found
initial_first session p setup steps found first setup_is are =
    in_other_words (AreSetupLinesTo (setup_entries session) steps) (AreInitialTo session p steps) (length steps)
    (λ n lines. λ again. lines) (λ n lines. lines first) found
    (subst (λ (n : ℕ). IsFirstBad (AreSetupLinesTo n steps) (length steps) found) setup_is are)

pub step_found : (session : Outline) (journal : List journaled.Entry) (transcripts : List (List Step)) (p : ℕ) (steps : List Step)
    (naming : Naming) (undone named initial full one two found : Option ℕ) → steps ≡ part transcripts p
    → IsFirstBad (AreDoneTo session journal p (part transcripts p)) (length (part transcripts p)) undone
    → IsNaming journal p steps naming → named ≡ misnamed naming
    → IsFirstBad (AreInitialTo session p steps) (length steps) initial → IsFirstBad (HasNoEarlyFullTo steps) (length steps) full
    → one ≡ least undone named → two ≡ least initial full → found ≡ least one two
    → IsFirstBad (AreRightLinesTo session journal p steps) (length steps) found
step_found session journal transcripts p steps naming undone named initial full one two found same lines names named_is initials fulls
    one_is two_is found_is =
    subst (IsFirstBad (AreRightLinesTo session journal p steps) (length steps))
    (sym (found_is ∙ ap (λ (a : Option ℕ). least a two) one_is ∙ ap (least (least undone named)) two_is))
    (first_step session journal transcripts p steps undone named initial full
    (subst (λ (s : List Step). IsFirstBad (AreDoneTo session journal p s) (length s) undone) (sym same) lines)
    (subst (IsFirstBad (AreNamedTo journal p steps) (length steps)) (sym named_is) (first_misnamed journal p steps naming names))
    initials fulls)

-- parts by their places
part_is : (parts : List (List Step)) (p : ℕ) (steps : List Step) → p < length parts → steps ≡ get_or parts p steps → steps ≡ part parts p
part_is [] p steps l is = absurd (omega (arith, l))
part_is (first ∷ parts) zero steps l is = is
part_is (first ∷ parts) (suc p) steps l is = part_is parts p steps (omega (arith, l)) is

pub found_part : (transcripts parts : List (List Step)) (p : ℕ) (steps : List Step) → parts ≡ transcripts → p < length parts
    → steps ≡ get_or parts p steps → steps ≡ part transcripts p
found_part transcripts parts p steps same l is =
    subst (λ (t : List (List Step)). steps ≡ part t p) same (part_is parts p steps l is)

pub none_found : (transcripts parts : List (List Step)) (p : ℕ) → parts ≡ transcripts → length parts ≤ p → part transcripts p ≡ []
none_found transcripts parts p same l = subst (λ (t : List (List Step)). part t p ≡ []) same (no_part parts p l)

pub none_undone : (session : Outline) (journal : List journaled.Entry) (p : ℕ) (steps : List Step) → steps ≡ []
    → AreDoneTo session journal p steps (length steps)
none_undone session journal p steps none =
    subst (λ (s : List Step). AreDoneTo session journal p s (length s)) (sym none)
    (record {
      ran = lines_of session p;
      are = inl refl;
      left = lines_of session p;
      now = opening_control session p;
      done = (refl, refl);
    })

-- the line rule, as its decider says it
pub undone_found : (session : Outline) (journal : List journaled.Entry) (p : ℕ) (steps : List Step) (found : Option ℕ)
    → IsFirstBadLine (setting_of session journal p) (opening_control session p) (lines_of session p) steps found
    → IsFirstBad (AreDoneTo session journal p steps) (length steps) found
undone_found session journal p steps None are =
    subst (AreKept (setting_of session journal p) (opening_control session p) (lines_of session p))
    (sym (take_all (length steps) steps (omega arith))) are
undone_found session journal p steps (Some place) first = elim (cases_lt place (length steps)) [
  | inl l ↦ record { within = l; good = first.before; bad = first.bad }
  | inr l ↦ absurd (first.bad
      (subst (AreKept (setting_of session journal p) (opening_control session p) (lines_of session p))
      (take_all place steps l ∙ sym (take_all (suc place) steps (omega (arith, l)))) first.before))
]

pub undone_of : {Y : Type 0} (session : Outline) (journal : List journaled.Entry) (transcripts : List (List Step)) (p : ℕ) (steps : List Step)
    (r : Result (Option ℕ) Y) → steps ≡ part transcripts p
    → IfOk r (IsFirstBadLine (setting_of session journal p) (opening_control session p) (lines_of session p) steps)
    → IfOk r (IsFirstBad (AreDoneTo session journal p (part transcripts p)) (length (part transcripts p)))
undone_of session journal transcripts p steps r same is =
    subst (λ (s : List Step). IfOk r (IsFirstBad (AreDoneTo session journal p s) (length s))) same
    (IfOk-weaker r (IsFirstBadLine (setting_of session journal p) (opening_control session p) (lines_of session p) steps)
    (IsFirstBad (AreDoneTo session journal p steps) (length steps)) (undone_found session journal p steps) is)

-- the descriptors beside the events of a part
module _ (access : Element → Descriptor) where
  beside_on : (events : List Event2) (place : ℕ) (e : Element) → slice_get events place ≡ Some (Core (Seen e))
      → slice_get (map (judged_on access) events) place ≡ Some (access e)
  beside_on [] place e at = absurd cc
  beside_on (event ∷ events) zero e at = ap (λ (v : Event2). Some (judged_on access v)) (some_same at)
  beside_on (event ∷ events) (suc place) e at = beside_on events place e at

  beside_admissible : (events : List Event2) (place : ℕ) (e : Element) → All IsAdmissible (map (judged_on access) events)
      → slice_get events place ≡ Some (Core (Seen e)) → IsAdmissible (access e)
  beside_admissible [] place e all at = absurd cc
  beside_admissible (event ∷ events) zero e all at =
      subst (λ (v : Event2). IsAdmissible (judged_on access v)) (some_same at)
      (All-head IsAdmissible (judged_on access event) (map (judged_on access) events) all)
  beside_admissible (event ∷ events) (suc place) e all at =
      beside_admissible events place e (All-tail IsAdmissible (judged_on access event) (map (judged_on access) events) all) at

pub are_beside : (access : Element → Descriptor) (transcripts : List (List Step)) (p : ℕ) (steps : List Step) (row : List Descriptor)
    → steps ≡ part transcripts p → row ≡ map (judged_on access) (events_of (part transcripts p)) → All IsAdmissible row
    → AreBeside access (events_of steps) row
are_beside access transcripts p steps row same row_is admissible =
    subst (λ (s : List Step). AreBeside access (events_of s) row) (sym same)
    (subst (AreBeside access (events_of (part transcripts p))) (sym row_is) (record {
      each = length-map (events_of (part transcripts p)) (judged_on access);
      on = beside_on access (events_of (part transcripts p));
      admissible = λ place e at. beside_admissible access (events_of (part transcripts p)) place e
          (subst (λ (r : List Descriptor). All IsAdmissible r) row_is admissible) at;
    }))
