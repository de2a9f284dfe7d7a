-- Wrong journals and transcripts are refused.
use Rattle.std.proofs.Common.{◌≡◌, ℕ, zero, suc, ◌<◌, ◌≤◌, List, [], ◌∷◌, length, refl, ap, subst, Some, arith}
use Rattle.std.specs.Prelude.{map, get_or}
use Rattle.std.specs.List.{slice_get}
use Rattle.mx_request.specs.declared.classes.RequestClass.TheVariants.{OfPath, OfProcess}
use Rattle.mx_request.specs.declared.replies.Reply.TheVariants as reply
use Rattle.mx_request.specs.declared.requests.Request.{Request}
use Rattle.mx_request.specs.declared.requests.Request.TheVariants.{Delete}
use Rattle.mx_sdw.specs.declared.denials.Denial.TheVariants.{NotReadable}
use Rattle.mx_transcript.specs.declared.transcripts.Event2.TheVariants.{Entry}
use Rattle.mx_transcript.specs.declared.transcripts.Result2.TheVariants as result
use Rattle.mx_transcript.specs.Legal.{Call}
use Rattle.mx_transcript.specs.Transcripts.{Step, entries_named}
use Rattle.mx_transcript.specs.WrongJournals.{WrongLimits, WrongSetups, WrongReplies, WrongJournals}
use Rattle.mx_transcript.specs.WrongTranscripts.{WrongParts, WrongNames, WrongEnds, WrongFullSetups, WrongTranscripts, line, entered, full, loaded}

wrong_limits : WrongLimits
wrong_limits = record {
  right_limit = let l : 4 ≤ 4 = omega arith in l;
  one_more = λ within. let l : 4 ≤ 3 = within in omega arith;
  two_more = λ within. let l : 4 ≤ 2 = within in omega arith;
  setup_too_long = λ within. let l : 2 ≤ 1 = within in omega arith;
}

-- the letter of a call to delete an entry of one letter
abbrev path_of : Request → List ℕ
path_of (Delete path) = path
path_of _ = []

abbrev letter : Call → ℕ
letter call = get_or (path_of call.request) 1 0

abbrev maker : Call → ℕ
maker call = call.process

abbrev ring : Call → ℕ
ring call = call.ring

two : (a b c d : ℕ) → a ∷ b ∷ [] ≡ c ∷ d ∷ [] → (a ≡ c) × (b ≡ d)
two a b c d h = (cc, cc)

wrong_setups : WrongSetups
wrong_setups = record {
  right_setup = refl;
  right_limited = refl;
  left_out = λ is. let w : 1 ≡ 0 = (two 0 1 0 0 (ap (map maker) is)).1 in omega arith;
  other_order = λ is. let w : 98 ≡ 97 = (two 98 97 97 98 (ap (map letter) is)).0 in omega arith;
  another_line = λ is. let w : 99 ≡ 98 = (two 97 99 97 98 (ap (map letter) is)).1 in omega arith;
  by_process = λ is. let w : 1 ≡ 0 = (two 0 1 0 0 (ap (map maker) is)).1 in omega arith;
  other_ring = λ is. let w : 1 ≡ 0 = (two 0 1 0 0 (ap (map ring) is)).1 in omega arith;
  in_between = λ is. let w : 1 ≡ 0 = (two 0 1 0 0 (ap (map maker) is)).1 in omega arith;
}

same_message : (a b c d : ℕ) → reply.Message a b ≡ reply.Message c d → (a ≡ c) × (b ≡ d)
same_message a b c d h = (cc, cc)

wrong_replies : WrongReplies
wrong_replies = record {
  right_replies = (
    record { maker = (omega arith, λ e. absurd (omega arith)); reply = refl },
    (
      record { maker = (omega arith, λ e. absurd (omega arith)); reply = refl },
      (
        record { maker = (omega arith, λ e. absurd (omega arith)); reply = refl },
        (record { maker = (omega arith, λ e. absurd (omega arith)); reply = refl }, tt),
      ),
    ),
  );
  nobody = λ are. let w : reply.Waiting ≡ reply.Nobody = are.0.reply in cc;
  other_word = λ are.
      let w : 7 ≡ 8 = (same_message 2 7 2 8 are.1.1.0.reply).1 in omega arith;
  other_sender = λ are. let w : 2 ≡ 1 = (same_message 2 7 1 7 are.1.1.0.reply).0 in omega arith;
  too_early = λ are. let w : reply.Waiting ≡ reply.Message 2 7 = are.0.reply in cc;
  waits_on = λ are. let w : reply.Message 2 7 ≡ reply.Waiting = are.1.1.0.reply in cc;
  no_process = λ are. let l : 3 ≤ 2 = are.0.maker.0 in omega arith;
  initializers = λ are. let w : OfProcess ≡ OfPath = are.0.maker.1 refl in cc;
}

pub wrong_journals : WrongJournals
wrong_journals = record {
  limit = λ x journal transcripts legal. legal.within_limit;
  setup = λ x journal transcripts legal. legal.setup_first;
  limits = wrong_limits;
  setups = wrong_setups;
  replies = wrong_replies;
}

wrong_parts : WrongParts
wrong_parts = record {
  right_parts = refl;
  too_few = λ is. let w : 2 ≡ 3 = is in omega arith;
  initializers = λ is. let w : 1 ≡ 3 = is in omega arith;
  none = λ is. let w : 0 ≡ 3 = is in omega arith;
  too_many = λ is. let w : 4 ≡ 3 = is in omega arith;
}

wrong_names : WrongNames
wrong_names = record {
  right_names = refl;
  first_unnamed = λ is. let w : 1 ≡ 2 = ap length is in omega arith;
  last_unnamed = λ is. let w : 1 ≡ 2 = ap length is in omega arith;
  twice = λ is. let w : 3 ≡ 2 = ap length is in omega arith;
  other_order = λ is. let w : 3 ≡ 1 = (two 3 1 1 3 is).0 in omega arith;
  others = λ is. let w : 2 ≡ 3 = (two 1 2 1 3 is).1 in omega arith;
  others_too = λ is. let w : 3 ≡ 2 = ap length is in omega arith;
  beyond = λ is. let w : 3 ≡ 2 = ap length is in omega arith;
}

-- right ends
abbrev ends : List Step
ends = entered 1 ∷ line (Entry 2 ∷ []) result.HistoryFull ∷ loaded ∷ full ∷ []

same_step : (a b : Step) → Some a ≡ Some b → a ≡ b
same_step a b h = cc

not_full : (found : Step) → slice_get ends 0 ≡ Some found → found.2 ≡ result.HistoryFull → ⊥
not_full found at is =
    let w : result.Done ≡ result.HistoryFull = subst (λ (s : Step). s.2 ≡ result.HistoryFull)
    (let same : found ≡ entered 1 = cc in same) is in cc

right_end : (place later : ℕ) (found step : Step) → slice_get ends place ≡ Some found → found.2 ≡ result.HistoryFull
    → place < later → slice_get ends later ≡ Some step → entries_named step.1 ≡ []
right_end place zero found step at is before then = absurd (omega arith)
right_end zero (suc zero) found step at is before then = absurd (not_full found at is)
right_end (suc place) (suc zero) found step at is before then = absurd (omega arith)
right_end place (suc (suc zero)) found step at is before then =
    subst (λ (s : Step). entries_named s.1 ≡ []) (same_step loaded step then) refl
right_end place (suc (suc (suc zero))) found step at is before then =
    subst (λ (s : Step). entries_named s.1 ≡ []) (same_step full step then) refl
right_end place (suc (suc (suc (suc later)))) found step at is before then = absurd cc

wrong_ends : WrongEnds
wrong_ends = record {
  right_end = record { none = right_end };
  next = λ ends. let w : 1 ∷ [] ≡ [] = ends.none 0 1 full (entered 1) refl refl (omega arith) refl in cc;
  later = λ ends. let w : 1 ∷ [] ≡ [] = ends.none 0 2 full (entered 1) refl refl (omega arith) refl in cc;
  between = λ ends. let w : 2 ∷ [] ≡ [] = ends.none 1 2 full (entered 2) refl refl (omega arith) refl in cc;
  full_again = λ ends.
      let w : 1 ∷ [] ≡ [] = ends.none 0 1 full (line (Entry 1 ∷ []) result.HistoryFull) refl refl (omega arith) refl in
      cc;
}

-- a right setup
right_setup : (place : ℕ) (step : Step) → 1 ≤ place → slice_get (entered 1 ∷ full ∷ full ∷ []) place ≡ Some step
    → step.2 ≡ result.HistoryFull
right_setup zero step l at = absurd (omega arith)
right_setup (suc zero) step l at = subst (λ (s : Step). s.2 ≡ result.HistoryFull) (same_step full step at) refl
right_setup (suc (suc zero)) step l at = subst (λ (s : Step). s.2 ≡ result.HistoryFull) (same_step full step at) refl
right_setup (suc (suc (suc place))) step l at = absurd cc

wrong_full_setups : WrongFullSetups
wrong_full_setups = record {
  right_setup = record { each = right_setup };
  next_done = λ are.
      let w : result.Done ≡ result.HistoryFull = are.each 1 (line [] result.Done) (omega arith) refl in cc;
  last_done = λ are. let w : result.Done ≡ result.HistoryFull = are.each 2 (entered 2) (omega arith) refl in cc;
  refused = λ are.
      let w : result.Refused ≡ result.HistoryFull = are.each 1 (line [] result.Refused) (omega arith) refl in cc;
  denied = λ are.
      let w : result.Denied NotReadable ≡ result.HistoryFull =
      are.each 1 (line [] (result.Denied NotReadable)) (omega arith) refl in cc;
}

pub wrong_transcripts : WrongTranscripts
wrong_transcripts = record {
  number = λ x journal transcripts legal. legal.parts;
  names = λ x journal transcripts legal. legal.each_call_once;
  wrong_parts = wrong_parts;
  wrong_names = wrong_names;
  wrong_ends = wrong_ends;
  wrong_setups = wrong_full_setups;
}
