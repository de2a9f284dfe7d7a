-- What a process knows after a note, and after its own entry.
use Rattle.std.proofs.Common.{◌≡◌, ℕ, suc, ◌+◌, ◌≤◌, max, List, [], ◌∷◌, ◌++◌, length, Some, slice_get, refl, sym, ap, ◌∙◌, subst, arith, length-append}
use Rattle.mx_desc.specs.Passes.{PassValue}
use Rattle.mx_request.specs.declared.requests.Request.{Request}
use Rattle.mx_rule.specs.Fronts.{IsFront}
use Rattle.mx_rule.specs.Notes.{joined_view, noted_view}
use Rattle.mx_rule.specs.Shown.{all_told, note_of}
use Rattle.mx_rule.specs.declared.views.EntryView.{EntryView}
use Rattle.mx_rule.specs.declared.views.NoteView.{NoteView}
use Rattle.mx_rule.specs.declared.views.PassView.{PassView}
use Rattle.mx_rule.specs.declared.views.SuperView.{SuperView}
use Rattle.mx_script.specs.Sessions.{Outline}
use Rattle.mx_state.specs.Told.{IsLinkedWithin}
use Rattle.mx_state.specs.declared.journal.Entry as journaled
use Rattle.mx_sup.specs.Entering.{HasEntered as HasBeenEntered}
use Rattle.mx_sup.specs.Supervised.{Supervised, state_of, supervised}
use Rattle.mx_ties.specs.Views.{Marked}
use Rattle.mx_transcript.specs.Settings.{entry_at}
use Rattle.mx_closing.specs.Views.{marked_in}
use Rattle.mx_office.specs.Announcing.{Coming, IsAnnounced, announced_view}
use Rattle.mx_office.specs.Replies.{IsReplyFor}
use Rattle.mx_office.specs.Revoking.{IsListed}
use Rattle.mx_office.specs.Serving.{HasEntered, HasGrown, IsServed, answer_of, told_to}
use Rattle.mx_office.specs.declared.answers.Answer.{Answer}
use Rattle.mx_office.specs.declared.answers.Served.{Served}
use Rattle.mx_ties.specs.Closed.{followed}
use Rattle.mx_transcript.specs.Misses.{IsChanged}
use Rattle.std.proofs.Common.{Result, Ok, Err}
use Rattle.mx_office.specs.declared.answers.EnterError.{EnterError}
use Rattle.mx_office.specs.declared.answers.EnterError.TheVariants.{HistoryFull}
use Rattle.std.specs.declared.alloc.AllocError.{AllocError}
use Rattle.mx_office.proofs.Locks.{append_one, marked_length, marked_of}
use Rattle.mx_office.proofs.Replies.{fits}

append_none : {X : Type 0} (xs : List X) → xs ++ [] ≡ xs
append_none [] = refl
append_none (x ∷ xs) = ap (λ ys. x ∷ ys) (append_none xs)

pub marked_append : (later front : List (EntryView journaled.Entry))
    → marked_in (later ++ front) ≡ marked_in front ++ marked_in later
marked_append [] front = sym (append_none (marked_in front))
marked_append (e ∷ es) front = ap (λ (m : List Marked). m ++ marked_of e ∷ []) (marked_append es front)
    ∙ sym (append_one (marked_in front) (marked_in es) (marked_of e))

pub grown_view : (o o' : PassValue journaled.Entry) (n : NoteView journaled.Entry) → o'.view ≡ joined_view n o.view
    → o'.spare ≡ o.spare → IsFront o.view.history o'.view.history → HasGrown o o'
grown_view o o' n is spare front = record {
  more = marked_in front.later;
  history = ap marked_in front.is ∙ marked_append front.later o.view.history;
  floor = (let a = ap (λ (z : PassView journaled.Entry). z.floor) is in omega arith);
  told = λ m. (let a = ap (λ (z : PassView journaled.Entry). all_told z.start z.told z.process m) is in
      let b : all_told o.view.start (n ∷ o.view.told) o.view.process m
      ≡ max (told_to o m) ((note_of n).told o.view.process m) = refl in omega arith);
  trace = ap (λ (z : PassView journaled.Entry). z.trace) is;
  memory = ap (λ (z : PassView journaled.Entry). z.memory) is;
  stage = ap (λ (z : PassView journaled.Entry). z.stage) is;
  process = ap (λ (z : PassView journaled.Entry). z.process) is;
  start = ap (λ (z : PassView journaled.Entry). z.start) is;
  spare = spare;
}

pub grown_by : (o o' : PassValue journaled.Entry) (n : NoteView journaled.Entry)
    → o' ≡ record o { view = joined_view n o.view } → IsFront o'.view.earlier o'.view.history → HasGrown o o'
grown_by o o' n is longer = grown_view o o' n (ap (λ (z : PassValue journaled.Entry). z.view) is)
    (ap (λ (z : PassValue journaled.Entry). z.spare) is)
    (subst (λ (h : List (EntryView journaled.Entry)). IsFront h o'.view.history)
    (ap (λ (z : PassValue journaled.Entry). z.view.earlier) is) longer)

slice_last : {X : Type 0} (xs : List X) (x : X) → slice_get (xs ++ x ∷ []) (length xs) ≡ Some x
slice_last [] x = refl
slice_last (y ∷ ys) x = slice_last ys x

last_entry : (j : List journaled.Entry) (e : journaled.Entry) → entry_at (j ++ e ∷ []) (length j + 1) ≡ Some e
last_entry j e = subst (λ (n : ℕ). entry_at (j ++ e ∷ []) n ≡ Some e) (next (length j)) (slice_last j e)
  where
    next : (n : ℕ) → suc n ≡ n + 1
    next n = omega arith

same_entry : (a b : journaled.Entry) → Some a ≡ Some b → a ≡ b
same_entry a b e = cc

module _ (s s' : Supervised) (p ring : ℕ) (request : Request) (number : ℕ)
    (made : HasBeenEntered s p ring request number s') where
  abbrev pub mine : journaled.Entry
  mine = record { process = p; ring = ring; request = request; reply = made.reply }

  pub number_within : number ≤ length s'.journal
  number_within = let a = ap (λ (z : Supervised). length z.journal) made.entry in
      let b = length-append s.journal (mine ∷ []) in let c = made.number in omega arith

  pub longer_by : length s'.journal ≡ length s.journal + 1
  longer_by = ap (λ (z : Supervised). length z.journal) made.entry ∙ length-append s.journal (mine ∷ [])

  pub entry_found : (found : journaled.Entry) → entry_at s'.journal number ≡ Some found → found ≡ mine
  entry_found found at = same_entry found mine (sym at
      ∙ (λ i. entry_at ((ap (λ (z : Supervised). z.journal) made.entry) i) (made.number i))
      ∙ last_entry s.journal mine)

  pub grown_journal : (found : journaled.Entry) → entry_at s'.journal number ≡ Some found
      → s' ≡ supervised s.session (s.journal ++ found ∷ [])
  grown_journal found at = made.entry
      ∙ ap (λ (e : journaled.Entry). supervised s.session (s.journal ++ e ∷ [])) (sym (entry_found found at))

  -- what is replied in its entry is a reply to the request, and names a place within bounds
  pub fits_found : 1 ≤ p → (found : journaled.Entry) → entry_at s'.journal number ≡ Some found
      → IsReplyFor request found.reply
  fits_found some found at = subst (λ (e : journaled.Entry). IsReplyFor request e.reply) (sym (entry_found found at))
      (fits (state_of s) p ring request some made.right.maker.0 made.reply made.right.reply)

  pub linked_found : (found : journaled.Entry) → entry_at s'.journal number ≡ Some found → IsLinkedWithin found.reply
  linked_found found at =
      subst (λ (e : journaled.Entry). IsLinkedWithin e.reply) (sym (entry_found found at)) made.linked

  -- what is replied in its entry is answered
  pub served_by : (found : journaled.Entry) → entry_at s'.journal number ≡ Some found → (answer : Answer)
      → answer ≡ answer_of found.reply → IsServed s p ring request (record { number = number; answer = answer }) s'
  served_by found at answer is = record {
    made = made;
    answered = is ∙ ap (λ (e : journaled.Entry). answer_of e.reply) (entry_found found at);
  }

-- what its entry leaves a process
pub entered_by : (x : Outline) (setup : List journaled.Entry) (v : SuperView journaled.Entry)
    (e : Coming journaled.Entry) (ring : ℕ) (request : Request) (served : Served) (o o' : PassValue journaled.Entry)
    → IsAnnounced e v o.view o'.view → o'.spare ≡ o.spare → o'.amount ≡ o.amount + 1
    → v.start ≡ length setup → v.start + length v.history ≡ v.length → served.number ≡ v.length + 1
    → e.entry ≡ record { process = o.view.process; ring = ring; request = request; reply = e.entry.reply }
    → IsLinkedWithin e.entry.reply → IsReplyFor request e.entry.reply
    → served.answer ≡ answer_of e.entry.reply
    → ((n : ℕ) → IsChanged x (followed setup (marked_in v.history ++ record { entry = e.entry; mark = length o.view.trace } ∷ []))
    o.view.process n served.number → IsListed e.changes o.view.process n)
    → HasEntered x setup ring request served o o'
entered_by x setup v e ring request served o o' told spare amount start counted number mine linked replied answer listed =
    let whole : marked_in o'.view.history
    ≡ marked_in v.history ++ record { entry = e.entry; mark = length o.view.trace } ∷ [] = ap marked_in told.history in
    record {
      grown = grown_view o o' (noted_view (announced_view e v)) told.joined spare told.longer;
      place = length v.history;
      is = omega arith;
      marked = record { entry = e.entry; mark = length o.view.trace };
      at = ap (λ (m : List Marked). slice_get m (length v.history)) whole
          ∙ ap (slice_get (marked_in v.history ++ record { entry = e.entry; mark = length o.view.trace } ∷ []))
          (sym (marked_length v.history))
          ∙ slice_last (marked_in v.history) (record { entry = e.entry; mark = length o.view.trace });
      entry = mine;
      linked = linked;
      fits = replied;
      answered = answer;
      mark = refl;
      above = (let a = told.above in omega arith);
      reached = told.reached ∙ sym number;
      own = λ n changed.
          let l = listed n (subst (λ (m : List Marked). IsChanged x (followed setup m) o.view.process n served.number)
          whole changed) in
          let a : v.length + 1 ≤ told_to o' l.change.segno = told.own l.place l.change l.at l.process in
          let b = ap (told_to o') l.segno in omega arith;
      amount = amount;
    }

pub same_served : (a b : Served) → ◌≡◌ {A = Result Served AllocError} (Ok a) (Ok b) → a ≡ b
same_served a b is = cc

pub same_length : (a b : ℕ) → ◌≡◌ {A = Result Served EnterError} (Err (HistoryFull a)) (Err (HistoryFull b)) → a ≡ b
same_length a b is = cc

pub same_entered : (a b : Served) → ◌≡◌ {A = Result Served EnterError} (Ok a) (Ok b) → a ≡ b
same_entered a b is = cc
