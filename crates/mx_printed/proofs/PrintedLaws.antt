-- A legal run has a run text: it can be spelled, its replies tell paths, and its references come to what their kinds can.
use Rattle.std.proofs.Common.{◌≡◌, true, ◌&&◌, List, [], ◌∷◌, refl}
use Rattle.std.specs.List.{list_all}
use Rattle.mx_hier.specs.declared.asking.Status.TheVariants as told_of
use Rattle.mx_reader.specs.RunTexts.{tells_path}
use Rattle.mx_request.proofs.StepLaws.{both, both_hold}
use Rattle.mx_request.specs.Fields.{is_name}
use Rattle.mx_request.specs.RequestTexts.{fits_request, is_ring}
use Rattle.mx_request.specs.declared.replies.Reply.{Reply}
use Rattle.mx_request.specs.declared.replies.Reply.TheVariants as reply
use Rattle.mx_spelling.proofs.JournalBounds.{spellable_law}
use Rattle.mx_spelling.specs.Spelling.{IsSpellable, bounds_reply, fits_entry, is_process}
use Rattle.mx_state.specs.declared.journal.Entry as journaled
use Rattle.mx_text.specs.RunText.{run_text}
use Rattle.mx_transcript.specs.Opened.{opening_of}
use Rattle.mx_printed.specs.Laws.{RunTextLaw}
use Rattle.mx_printed.proofs.LinkTargets.{is_short_path}
use Rattle.mx_printed.proofs.Outcomes.{each_event_told}
use Rattle.mx_printed.proofs.ToldTargets.{is_short_entry, is_short_reply, replies_short}

-- a path is names of at most 168 bytes together
path_told : (r : Reply) → is_short_reply r ≡ true → bounds_reply r ≡ true → tells_path r ≡ true
path_told (reply.Status (told_of.Link target)) short names = both_hold (is_short_path target) (list_all is_name target) short names
path_told (reply.Status (told_of.Segment words brackets modes class)) short names = refl
path_told (reply.Status (told_of.Object words brackets gate definitions links modes class)) short names = refl
path_told (reply.Status (told_of.Directory d1 d2 modes)) short names = refl
path_told reply.Done short names = refl
path_told (reply.Refused why) short names = refl
path_told (reply.Names list) short names = refl
path_told (reply.Segno known) short names = refl
path_told (reply.Linked segno word fresh linkage) short names = refl
path_told reply.Sent short names = refl
path_told (reply.Message sender word) short names = refl
path_told reply.Nobody short names = refl
path_told reply.Waiting short names = refl

reply_bounded : (entry : journaled.Entry) → fits_entry entry ≡ true → bounds_reply entry.reply ≡ true
reply_bounded entry e =
    let f = both (is_process entry.process) (is_ring entry.ring && (fits_request entry.request && bounds_reply entry.reply)) e in
    let g = both (is_ring entry.ring) (fits_request entry.request && bounds_reply entry.reply) f.1 in
    (both (fits_request entry.request) (bounds_reply entry.reply) g.1).1

paths_told : (journal : List journaled.Entry) → list_all is_short_entry journal ≡ true → list_all fits_entry journal ≡ true
    → list_all (λ (entry : journaled.Entry). tells_path entry.reply) journal ≡ true
paths_told [] short fits = refl
paths_told (entry ∷ journal) short fits =
    let e = both (is_short_entry entry) (list_all is_short_entry journal) short in
    let f = both (fits_entry entry) (list_all fits_entry journal) fits in
    both_hold (tells_path entry.reply) (list_all (λ (entry : journaled.Entry). tells_path entry.reply) journal)
    (path_told entry.reply e.0 (reply_bounded entry f.0)) (paths_told journal e.1 f.1)

pub run_text_law : RunTextLaw
run_text_law x journal transcripts first is session legal =
    let spellable : IsSpellable journal transcripts = spellable_law x journal transcripts session is.fits_all legal in
    record {
      first = first;
      second = run_text journal transcripts;
      parts = refl;
      of_session = is;
      of_run = record {
        spellable = spellable;
        replies = paths_told journal (replies_short (opening_of x) journal tt legal.right) spellable.entries;
        events = each_event_told x journal transcripts legal;
        text = refl;
      };
    }
