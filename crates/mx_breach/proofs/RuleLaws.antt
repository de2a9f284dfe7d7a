-- The rule that is told is one that the line breaks.
use Rattle.std.proofs.Common.{◌≡◌, ◌⊎◌, inl, inr, ℕ, suc, ◌<◌, ◌≤◌, List, length, Option, Some, None, sym, subst, arith}
use Rattle.std.specs.Prelude.{IfSome}
use Rattle.mx_breach.specs.Rules.{AreFailing, IsBroken, IsOther, IsWithin}
use Rattle.mx_breach.specs.declared.rules.Broken.{Broken}
use Rattle.mx_breach.specs.declared.rules.Rule.{Rule}
use Rattle.mx_breach.specs.declared.rules.Rule.TheVariants.{Full, Lines, Misses, Naming, Points, Reads, Setup}
use Rattle.mx_legal.specs.Deciding.{AreInitialTo, AreOwnReadsTo, misnamed}
use Rattle.mx_legal.specs.Fronts.{AreDoneTo, HasNoEarlyFullTo, events_to}
use Rattle.mx_legal.specs.declared.failing.Failing.{Failing}
use Rattle.mx_points.specs.Fronts.{AreNamedTo, ArePointsTo, AreRightMissesTo, IsFirstBad, IsNaming}
use Rattle.mx_points.specs.declared.naming.Naming.{Naming as HowNamed}
use Rattle.mx_points.specs.declared.naming.Naming.TheVariants as how
use Rattle.mx_script.specs.Sessions.{Outline}
use Rattle.mx_state.specs.declared.journal.Entry as journaled
use Rattle.mx_transcript.specs.Legal.{deeds, setup_entries}
use Rattle.mx_transcript.specs.Misses.{IsChanged}
use Rattle.mx_transcript.specs.Transcripts.{Step, part}

-- what is said of a place where there is one
if_some : (P : Type 0) (told : Option ℕ) (at : ℕ) → IfSome told (λ e. P) → told ≡ Some at → P
if_some P told at is there = subst (λ (o : Option ℕ). IfSome o (λ e. P)) there is

-- a rule fails where it fails first
bad_there : (H : ℕ → Type 0) (count place : ℕ) (failed : Option ℕ) → IsFirstBad H count failed → failed ≡ Some place
    → H (suc place) → ⊥
bad_there H count place failed first is = (subst (IsFirstBad H count) is first).bad

named_there : (journal : List journaled.Entry) (p : ℕ) (steps : List Step) (naming : HowNamed) (place : ℕ)
    → IsNaming journal p steps naming → misnamed naming ≡ Some place → AreNamedTo journal p steps (suc place) → ⊥
named_there journal p steps how.Whole place first is = absurd cc
named_there journal p steps how.Short place first is = absurd cc
named_there journal p steps (how.Misnamed n) place first is =
    let same : n ≡ place = cc in
    subst (λ (k : ℕ). AreNamedTo journal p steps (suc k) → ⊥) same first.bad

-- a rule on deeds that fails at an event of a line does not hold of the lines up to that one
deed_there : (H : ℕ → Type 0) → ((j k : ℕ) → j ≤ k → H k → H j) → (steps : List Step) (count place : ℕ) (failed : Option ℕ)
    → IsFirstBad H count failed → IsWithin steps place failed → place < length steps → H (events_to steps (suc place)) → ⊥
deed_there H fewer steps count place failed first within there all =
    let l : within.event < events_to steps (suc place) = within.line.in_line there in
    (subst (IsFirstBad H count) within.at first).bad (fewer (suc within.event) (events_to steps (suc place)) (omega (arith, l)) all)

module _ (session : Outline) (journal : List journaled.Entry) (transcripts : List (List Step)) (p k : ℕ) where
  abbrev IsTold : Option Broken → Type 0
  IsTold told = IfSome told (λ b. IsBroken session journal transcripts p k b.rule)

  -- one more rule, which the line breaks where it has an event
  more : (rule : Rule) (one told : Option Broken) (event : Option ℕ) → IsTold one
      → ((at : ℕ) → event ≡ Some at → IsBroken session journal transcripts p k rule)
      → (told ≡ one) ⊎ IsOther rule event told → IsTold told
  more rule one told event before here (inl same) = subst IsTold (sym same) before
  more rule one told event before here (inr other) = subst IsTold (sym other.told_is) (here other.at other.event_is)

  fewer_points : (i j : ℕ) → i ≤ j
      → ArePointsTo (setup_entries session) (length journal) (deeds session journal transcripts p) j
      → ArePointsTo (setup_entries session) (length journal) (deeds session journal transcripts p) i
  fewer_points i j l are = λ place deed q h there point. are place deed q (omega (arith, h, l)) there point

  fewer_misses : (i j : ℕ) → i ≤ j
      → AreRightMissesTo journal (IsChanged session journal p) p (deeds session journal transcripts p) j
      → AreRightMissesTo journal (IsChanged session journal p) p (deeds session journal transcripts p) i
  fewer_misses i j l are = λ place segno by h there. are place segno by (omega (arith, h, l)) there

  fewer_reads : (i j : ℕ) → i ≤ j → AreOwnReadsTo session journal transcripts p j → AreOwnReadsTo session journal transcripts p i
  fewer_reads i j l are = record {
    source = are.source;
    right = λ read has same below. are.right read has same (omega (arith, below, l));
  }

  abbrev Done : ℕ → Type 0
  Done = AreDoneTo session journal p (part transcripts p)

  abbrev Pointing : ℕ → Type 0
  Pointing = ArePointsTo (setup_entries session) (length journal) (deeds session journal transcripts p)

  abbrev Missing' : ℕ → Type 0
  Missing' = AreRightMissesTo journal (IsChanged session journal p) p (deeds session journal transcripts p)

  abbrev Reading' : ℕ → Type 0
  Reading' = AreOwnReadsTo session journal transcripts p

  abbrev count : ℕ
  count = length (part transcripts p)

  abbrev deed_count : ℕ
  deed_count = length (deeds session journal transcripts p)

  -- the same lines
  same_within : (lines : List Step) (told failed : Option ℕ) → lines ≡ part transcripts p → IfSome told (λ e. IsWithin lines k failed)
      → IfSome told (λ e. IsWithin (part transcripts p) k failed)
  same_within lines told failed same is = subst (λ (l : List Step). IfSome told (λ e. IsWithin l k failed)) same is

  is_broken : (failing : Failing) → AreFailing session journal transcripts p failing → k < length (part transcripts p)
      → (name point undone naming miss read setup full : Option ℕ)
      → IfSome point (λ e. IsWithin (part transcripts p) k failing.point) → IfSome undone (λ e. failing.line ≡ Some k)
      → name ≡ misnamed failing.naming → IfSome naming (λ e. name ≡ Some k)
      → IfSome miss (λ e. IsWithin (part transcripts p) k failing.miss)
      → IfSome read (λ e. IsWithin (part transcripts p) k failing.read) → IfSome setup (λ e. failing.setup ≡ Some k)
      → IfSome full (λ e. failing.full ≡ Some k)
      → (first second third fourth fifth sixth told : Option Broken)
      → (first ≡ None) ⊎ IsOther Points point first → (second ≡ first) ⊎ IsOther Lines undone second
      → (third ≡ second) ⊎ IsOther Naming naming third → (fourth ≡ third) ⊎ IsOther Misses miss fourth
      → (fifth ≡ fourth) ⊎ IsOther Reads read fifth → (sixth ≡ fifth) ⊎ IsOther Setup setup sixth
      → (told ≡ sixth) ⊎ IsOther Full full told → IsTold told
  is_broken failing are there name point undone naming miss read setup full points lines name_is names misses reads setups fulls
      first second third fourth fifth sixth told a b c d e f g =
      more Full sixth told full
      (more Setup fifth sixth setup
      (more Reads fourth fifth read
      (more Misses third fourth miss
      (more Naming second third naming
      (more Lines first second undone
      (more Points None first point tt (λ at is. deed_there Pointing fewer_points (part transcripts p) deed_count k failing.point are.point
      (if_some (IsWithin (part transcripts p) k failing.point) point at points is) there) a)
      (λ at is. bad_there Done count k failing.line are.line (if_some (failing.line ≡ Some k) undone at lines is)) b)
      (λ at is. named_there journal p (part transcripts p) failing.naming k are.naming
      (subst (λ (o : Option ℕ). o ≡ Some k) name_is (if_some (name ≡ Some k) naming at names is))) c)
      (λ at is. deed_there Missing' fewer_misses (part transcripts p) deed_count k failing.miss are.miss (if_some (IsWithin (part transcripts p) k failing.miss) miss at misses is) there) d)
      (λ at is good. deed_there Reading' fewer_reads (part transcripts p) deed_count k failing.read (are.read good) (if_some (IsWithin (part transcripts p) k failing.read) read at reads is) there) e)
      (λ at is. bad_there (AreInitialTo session p (part transcripts p)) count k failing.setup are.setup (if_some (failing.setup ≡ Some k) setup at setups is)) f)
      (λ at is. bad_there (HasNoEarlyFullTo (part transcripts p)) count k failing.full are.full (if_some (failing.full ≡ Some k) full at fulls is)) g

  -- the same, where the lines are those that were listed
  pub is_broken_in : (lines : List Step) (failing : Failing) → AreFailing session journal transcripts p failing → lines ≡ part transcripts p
      → k < length lines → (name point undone naming miss read setup full : Option ℕ)
      → IfSome point (λ e. IsWithin lines k failing.point) → IfSome undone (λ e. failing.line ≡ Some k)
      → name ≡ misnamed failing.naming → IfSome naming (λ e. name ≡ Some k) → IfSome miss (λ e. IsWithin lines k failing.miss)
      → IfSome read (λ e. IsWithin lines k failing.read) → IfSome setup (λ e. failing.setup ≡ Some k)
      → IfSome full (λ e. failing.full ≡ Some k) → (first second third fourth fifth sixth told : Option Broken)
      → (first ≡ None) ⊎ IsOther Points point first → (second ≡ first) ⊎ IsOther Lines undone second
      → (third ≡ second) ⊎ IsOther Naming naming third → (fourth ≡ third) ⊎ IsOther Misses miss fourth
      → (fifth ≡ fourth) ⊎ IsOther Reads read fifth → (sixth ≡ fifth) ⊎ IsOther Setup setup sixth
      → (told ≡ sixth) ⊎ IsOther Full full told → IsTold told
  is_broken_in lines failing are same there name point undone naming miss read setup full points undones name_is names misses reads setups fulls =
      is_broken failing are (subst (λ (l : List Step). k < length l) same there) name point undone naming miss read setup full
      (same_within lines point failing.point same points) undones name_is names (same_within lines miss failing.miss same misses)
      (same_within lines read failing.read same reads) setups fulls
