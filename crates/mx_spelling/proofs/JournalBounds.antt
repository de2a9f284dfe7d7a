-- Replies and descriptors of a legal run are within the bounds: each state that its journal leads to can be spelled. And so its whole run is.
use Rattle.std.proofs.Common.{◌≡◌, ℕ, zero, suc, ◌+◌, true, Bool, ◌&&◌, List, [], ◌∷◌, ◌++◌, length, map, take, Some, is_none, refl, ap, subst, ◌∙◌, arith, slice_get}
use Rattle.std.specs.List.{All, list_all}
use Rattle.std.proofs.lemmas.List.Elements.{All-nil, All-cons}
use Rattle.mx_name.specs.Principals.{components_fault}
use Rattle.mx_request.proofs.StepLaws.{both, both_hold}
use Rattle.mx_request.specs.RequestTexts.{fits_request, is_class, is_ring}
use Rattle.mx_request.specs.declared.entrants.Entrant.{Entrant}
use Rattle.mx_script.specs.SessionTexts.{fits, process_rows, rows_of, setup_rows}
use Rattle.mx_script.specs.Sessions.{IsSession, Outline}
use Rattle.mx_script.specs.declared.lines.Line.{Line}
use Rattle.mx_script.specs.declared.rows.Row.TheVariants as row
use Rattle.mx_state.specs.History.{IsRight, IsRightEntry, replay}
use Rattle.mx_state.specs.Plain.{Plain}
use Rattle.mx_state.specs.Requests.{plain}
use Rattle.mx_state.specs.declared.journal.Entry as journaled
use Rattle.mx_transcript.proofs.PartLines.{all_of_part}
use Rattle.mx_transcript.specs.Legal.{IsLegal, setting_of}
use Rattle.mx_transcript.specs.Opened.{opening_of}
use Rattle.mx_transcript.specs.Openings.{opening_control}
use Rattle.mx_transcript.specs.Scripts.{lines_of}
use Rattle.mx_transcript.specs.Transcripts.{Step, events_of, part}
use Rattle.mx_transcript.specs.declared.transcripts.Event2.TheVariants.{Entry}
use Rattle.mx_spelling.specs.Laws.{ReplyLaw, SpellableLaw}
use Rattle.mx_spelling.specs.Spelling.{bounds_reply, fits_entry, is_process}
use Rattle.mx_spelling.proofs.CallBounds.{IsFittingEntry, IsFittingEvent, done_fitting, grammar_fits}
use Rattle.mx_spelling.proofs.DescriptorBounds.{descriptor_low}
use Rattle.mx_spelling.proofs.LineBounds.{IsLowLine}
use Rattle.mx_spelling.proofs.ReplyBounds.{IsSaid}
use Rattle.mx_spelling.proofs.RequestBounds.{IsFitting, IsSpelledAnswer, answer_spelled}
use Rattle.mx_spelling.proofs.RunBounds.{AreBounded, bounded_run, is_said, listed, named_at, part_within, same_entry}
use Rattle.mx_spelling.proofs.SaidReplies.{reply_fits}
use Rattle.mx_spelling.proofs.SessionBounds.{parts_fit, session_low}
use Rattle.mx_spelling.proofs.StateBounds.{IsSpelled, IsSpelledEntrant, opening_spelled}
use Rattle.mx_spelling.proofs.WalkBounds.{at_place}

-- a journal of fitting requests, from a state that can be spelled
pub record IsSpelledHistory (s : Plain) (journal : List journaled.Entry) : Type 0 where
  pub replies : list_all is_said journal ≡ true
  pub states : (q : ℕ) → IsSpelled (replay s (take q journal))

longer_spelled : (s : Plain) (entry : journaled.Entry) (journal : List journaled.Entry) → IsSpelled s → IsRightEntry s entry
    → IsSpelledAnswer (plain s entry.process entry.ring entry.request)
    → IsSpelledHistory (plain s entry.process entry.ring entry.request).state journal → IsSpelledHistory s (entry ∷ journal)
longer_spelled s entry journal is right here rest = record {
  replies = both_hold (is_said entry) (list_all is_said journal) (subst IsSaid right.reply here.said) rest.replies;
  states = state;
}
  where
    state : (q : ℕ) → IsSpelled (replay s (take q (entry ∷ journal)))
    state zero = is
    state (suc q) = rest.states q

history_spelled : (s : Plain) (journal : List journaled.Entry) → IsSpelled s
    → ((place : ℕ) (entry : journaled.Entry) → slice_get journal place ≡ Some entry → IsFitting entry.request) → IsRight s journal
    → IsSpelledHistory s journal
history_spelled s [] is fitting right = record { replies = refl; states = state }
  where
    state : (q : ℕ) → IsSpelled (replay s (take q []))
    state zero = is
    state (suc q) = is
history_spelled s (entry ∷ journal) is fitting right =
    let here = answer_spelled s entry.process entry.ring is entry.request (fitting 0 entry refl) in
    longer_spelled s entry journal is right.0 here
    (history_spelled (plain s entry.process entry.ring entry.request).state journal here.state
    (λ place other at. fitting (suc place) other at) right.1)

-- the processes of a session
entrants_fit : (entrants : List Entrant) (scripts : List (List Line)) → length scripts ≡ length entrants
    → list_all fits (process_rows entrants scripts) ≡ true → All IsSpelledEntrant entrants
entrants_fit [] scripts same e = All-nil IsSpelledEntrant
entrants_fit (entrant ∷ entrants) [] same e = absurd (omega (arith, same))
entrants_fit (entrant ∷ entrants) (script ∷ scripts) same e =
    let f = both (fits (row.Process entrant)) (list_all fits (map row.Line script ++ process_rows entrants scripts)) e in
    let own = both (is_none (components_fault entrant.who)) (is_class entrant.authorization) f.0 in
    All-cons IsSpelledEntrant entrant entrants own.1
    (entrants_fit entrants scripts (omega (arith, same)) (parts_fit (map row.Line script) (process_rows entrants scripts) f.1).1)

begins : (x : Outline) → IsSession x → list_all fits (rows_of x) ≡ true → IsSpelled (opening_of x)
begins x session text =
    let f = parts_fit (setup_rows x.version x.history x.setup ++ process_rows x.principals x.scripts) (row.End ∷ []) text in
    let g = parts_fit (setup_rows x.version x.history x.setup) (process_rows x.principals x.scripts) f.0 in
    opening_spelled x.version x.principals session.most (entrants_fit x.principals x.scripts session.scripts g.1)

module _ (x : Outline) (journal : List journaled.Entry) (transcripts : List (List Step)) (session : IsSession x)
    (text : list_all fits (rows_of x) ≡ true) (legal : IsLegal x journal transcripts) where
  -- each entry is named by an event of its process, and so its request is one that a line enters
  named_entry : (place : ℕ) (entry : journaled.Entry) → slice_get journal place ≡ Some entry
      → IsFittingEntry (setting_of x journal entry.process) (1 + place)
  named_entry place entry at =
      let number = listed 1 entry.process journal place entry at refl in
      let named = named_at (events_of (part transcripts entry.process)) number.0 (1 + place)
      (ap (λ (numbers : List ℕ). slice_get numbers number.0) (legal.each_call_once entry.process) ∙ number.1) in
      let lines = legal.lines entry.process (part_within transcripts entry.process named.0 (Entry (1 + place)) named.1) in
      at_place (IsFittingEvent (setting_of x journal entry.process)) (events_of (part transcripts entry.process)) named.0 (Entry (1 + place))
      (done_fitting (setting_of x journal entry.process) (opening_control x entry.process) lines.1.ran
      (part transcripts entry.process) [] lines.0
      (all_of_part IsLowLine (lines_of x entry.process) lines.1.ran (part transcripts entry.process) lines.1.are
      (session_low x session text entry.process)) lines.1.done) named.1

  own_request : (place : ℕ) (entry : journaled.Entry) → slice_get journal place ≡ Some entry
      → IsFittingEntry (setting_of x journal entry.process) (1 + place) → IsFitting entry.request
  own_request place entry at own =
      subst (λ (e : journaled.Entry). IsFitting e.request) (same_entry journal place own.entry entry own.there at) own.fits

  entry_fitting : (place : ℕ) (entry : journaled.Entry) → slice_get journal place ≡ Some entry → IsFitting entry.request
  entry_fitting place entry at = own_request place entry at (named_entry place entry at)

  journal_bounded : AreBounded x journal
  journal_bounded =
      let history = history_spelled (opening_of x) journal (begins x session text) entry_fitting legal.right in
      record {
        replies = history.replies;
        descriptors = λ p e. descriptor_low (replay (opening_of x) (take e.point journal)) p e.segno (history.states e.point);
      }

pub spellable_law : SpellableLaw
spellable_law x journal transcripts session text legal =
    bounded_run x journal transcripts session text (journal_bounded x journal transcripts session text legal) legal

-- after entries that can be spelled a state can be, and so can what it answers
entry_request : (entry : journaled.Entry) → fits_entry entry ≡ true → fits_request entry.request ≡ true
entry_request entry e =
    let replied : Bool = bounds_reply entry.reply in
    let f = both (is_process entry.process) (is_ring entry.ring && (fits_request entry.request && replied)) e in
    let g = both (is_ring entry.ring) (fits_request entry.request && replied) f.1 in
    (both (fits_request entry.request) replied g.1).0

state_spelled : (s : Plain) (journal : List journaled.Entry) → IsSpelled s → list_all fits_entry journal ≡ true
    → IsSpelled (replay s journal)
state_spelled s [] is e = is
state_spelled s (entry ∷ journal) is e =
    let f = both (fits_entry entry) (list_all fits_entry journal) e in
    let here = answer_spelled s entry.process entry.ring is entry.request (grammar_fits entry.request (entry_request entry f.0)) in
    state_spelled (plain s entry.process entry.ring entry.request).state journal here.state f.1

pub reply_law : ReplyLaw
reply_law x journal p ring request session text fit asks =
    let s : Plain = replay (opening_of x) journal in
    let is = state_spelled (opening_of x) journal (begins x session text) fit in
    reply_fits (plain s p ring request).reply (answer_spelled s p ring is request (grammar_fits request asks)).said
