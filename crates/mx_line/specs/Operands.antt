-- Helpers: how far the line at work has come, and what its operand asks for.
use Rattle.std.specs.Prelude.{◌≡◌, ℕ, ◌-◌, ◌<◌, ◌≤◌, true, false, if◌then◌else◌, List, [], Option, Some, slice_get}
use Rattle.std.specs.Option.{option_map}
use Rattle.mx_call.specs.Registers.{Registers, ArePackable}
use Rattle.mx_upcall.specs.Control.{Control, with_registers}
use Rattle.mx_effring.specs.Chains as chains
use Rattle.mx_effring.specs.Walks.{Reached, IsBounded, reached, wanted}
use Rattle.mx_effring.specs.declared.walks.Want.{Want}
use Rattle.mx_effring.specs.declared.walks.Want.TheVariants.{Word, Done}
use Rattle.mx_transcript.specs.Attempts.{attempt}
use Rattle.mx_transcript.specs.Courses.{Judged}
use Rattle.mx_transcript.specs.Next.{Calls, Ends}
use Rattle.mx_transcript.specs.Operands.{walk_of}
use Rattle.mx_transcript.specs.Standing.{IsWalked}
use Rattle.mx_ptr.specs.Pointers.{PointerParts, IsPackable, pointer_word}
use Rattle.mx_request.specs.declared.requests.Request.TheVariants.{Link}
use Rattle.mx_script.specs.declared.lines.Line.{Line}
use Rattle.mx_script.specs.declared.lines.Line.TheVariants as line
use Rattle.mx_script.specs.Sessions.{is_script_line}
use Rattle.mx_line.specs.Fills.{IsShort, steps_to_fill}
use Rattle.mx_line.specs.declared.operands.Onward.{Onward}
use Rattle.mx_line.specs.declared.operands.Onward.TheVariants.{More, End}
use Rattle.mx_line.specs.declared.operands.Progress.{Progress}
use Rattle.mx_line.specs.declared.operands.Progress.TheVariants.{Before, Walking, AtLink, Waiting, Filling}

-- a line that a script may hold, in a session of some version
abbrev pub IsSayable : Line → Type 0
IsSayable line = (version : ℕ) × (is_script_line version line ≡ true)

-- a walk has come here: after all this was seen the attempt goes on as the walk of an operand that has come here
pub record HasComeTo (g : Control) (l : Line) (seen : List Judged) (at : Reached) : Type 0 where
  pub operand : chains.Operand
  pub is : reached operand ≡ at
  pub walked : IsWalked g l seen operand

-- after all this was seen, the operand has come so far
abbrev pub HasWalked : Control → Line → List Judged → Progress → Type 0
HasWalked g l seen Before = seen ≡ []
HasWalked g l seen (Walking walk) = HasComeTo g l seen walk
HasWalked g l seen (AtLink place) = attempt g l seen ≡ Calls place.ring (Link place.segno place.word)
HasWalked g l seen Waiting = ⊥
HasWalked g l seen (Filling fill) = ⊥

-- a line that refers to memory
abbrev pub IsMemoryLine : Line → Type 0
IsMemoryLine (line.Ask request) = ⊥
IsMemoryLine (line.Set word) = ⊥
IsMemoryLine (line.Epp n o) = Unit {0}
IsMemoryLine (line.Lda o) = Unit {0}
IsMemoryLine (line.Sta o) = Unit {0}
IsMemoryLine (line.Spri n o) = Unit {0}
IsMemoryLine line.Fetch = Unit {0}
IsMemoryLine (line.Call o) = Unit {0}
IsMemoryLine (line.Return o) = Unit {0}

-- only such a line walks
abbrev pub IsWalker : Line → Progress → Type 0
IsWalker l Before = Unit {0}
IsWalker l (Walking walk) = IsMemoryLine l
IsWalker l (AtLink place) = IsMemoryLine l
IsWalker l Waiting = Unit {0}
IsWalker l (Filling fill) = Unit {0}

-- and such a line alone walks
abbrev pub IsPlaced : Control → Line → List Judged → Progress → Type 0
IsPlaced g l seen progress = HasWalked g l seen progress × IsWalker l progress

-- a walk stands where a pointer word can say, and at no ring below the current one
pub record IsGoodPlace (g : Registers) (at : Reached) : Type 0 where
  pub packable : IsPackable at.place
  pub high : g.ring ≤ at.ring

pub record IsGoodWalk (g : Registers) (at : Reached) : Type 0 where
  pub stands : IsGoodPlace g at
  pub bounded : IsBounded at

abbrev pub IsGoodProgress : Registers → Progress → Type 0
IsGoodProgress g Before = Unit {0}
IsGoodProgress g (Walking walk) = IsGoodWalk g walk
IsGoodProgress g (AtLink place) = Unit {0}
IsGoodProgress g Waiting = Unit {0}
IsGoodProgress g (Filling fill) = IsShort fill

-- an effective pointer: it has a word, a ring not below the current one, and no further bit
pub record IsTarget (g : Registers) (target : PointerParts) : Type 0 where
  pub packable : IsPackable target
  pub high : g.ring ≤ target.ring
  pub plain : target.further ≡ false

-- what a walk asks for that stands at a place, at its effective ring: the word there where the place has the further bit, and
-- else nothing more
abbrev pub want_at : PointerParts → Want
want_at place = if place.further then Word place.segno place.word place.ring else Done place

-- what the walk of a line asks for at its beginning
abbrev pub first_want : Registers → Line → Option Want
first_want g l = option_map wanted (walk_of g l)

abbrev pub IsGoodWant : Registers → Want → Type 0
IsGoodWant g (Word segno word ring) = Unit {0}
IsGoodWant g (Done target) = IsTarget g target

-- a line that makes no reference at its target
abbrev pub IsAtNoWord : Line → Type 0
IsAtNoWord (line.Ask request) = Unit {0}
IsAtNoWord (line.Set word) = Unit {0}
IsAtNoWord (line.Epp n o) = Unit {0}
IsAtNoWord (line.Lda o) = ⊥
IsAtNoWord (line.Sta o) = ⊥
IsAtNoWord (line.Spri n o) = ⊥
IsAtNoWord line.Fetch = ⊥
IsAtNoWord (line.Call o) = ⊥
IsAtNoWord (line.Return o) = ⊥

-- after all this was seen the line goes on, or has ended
abbrev pub IsOnward : Control → Line → List Judged → Onward → Type 0
IsOnward g l seen (More progress) = HasWalked g l seen progress
IsOnward g l seen (End ends after) = attempt g l seen ≡ Ends ends (with_registers g after)

abbrev pub IsGoodOnward : Registers → Onward → Type 0
IsGoodOnward g (More progress) = IsGoodProgress g progress
IsGoodOnward g (End ends after) = ArePackable after

-- a pointer register is stored without further indirection
pub record IsRegisterWord (g : Registers) (n value : ℕ) : Type 0 where
  pub pointer : PointerParts
  pub at : slice_get g.pr n ≡ Some pointer
  pub is : value ≡ pointer_word (record pointer { further = false })

-- how many events a line can still have before its last step, at most, unless it makes a call: eight indirect words, and
-- its own reference or a link; none where its process was told to wait
abbrev pub steps_in : Progress → ℕ
steps_in Before = 10
steps_in (Walking walk) = 9 - walk.count
steps_in (AtLink place) = 1
steps_in Waiting = 0
steps_in (Filling fill) = steps_to_fill fill

abbrev pub IsCloser : ℕ → Onward → Type 0
IsCloser steps (More progress) = steps_in progress < steps
IsCloser steps (End ends after) = Unit {0}
