-- A history goes on by an entry.
use Rattle.std.proofs.Common.{◌≡◌, ◌⊎◌, inl, inr, ℕ, zero, suc, ◌<◌, ◌≤◌, ◌+◌, ◌-◌, List, [], ◌∷◌, ◌++◌, map, take, length, Some, refl, sym, ◌∙◌, ap, subst, arith, length-append}
use Rattle.std.proofs.lemmas.List.{map-append, take-append-le, length-map}
use Rattle.std.specs.List.{slice_get}
use Rattle.mx_transcript.specs.Legal.{call_of, setup_entries}
use Rattle.mx_transcript.specs.Settings.{entry_at}
use Rattle.mx_request.specs.declared.replies.Reply.{Reply}
use Rattle.mx_request.specs.declared.requests.Request.{Request}
use Rattle.mx_script.specs.Sessions.{Outline, limit_of}
use Rattle.mx_transcript.specs.Opened.{opening_of}
use Rattle.mx_state.specs.History.{replay, IsRight, IsRightEntry}
use Rattle.mx_state.specs.Plain.{Plain, answer}
use Rattle.mx_state.specs.Requests.{plain}
use Rattle.mx_state.specs.declared.journal.Entry as journaled
use Rattle.mx_state.specs.Changes.{AreChanges, IsBounded}
use Rattle.mx_state.specs.Given.{AreFreed, AreGiven}
use Rattle.mx_request.specs.Versions.{last_number}
use Rattle.std.specs.Prelude.{All}
use Rattle.mx_sup.specs.Entering.{HasCome}
use Rattle.mx_sup.specs.Supervised.{IsKept, Supervised, state_of, supervised}
use Rattle.mx_sup.specs.declared.supervisors.Entered.{Entered}

pub replay_more : (s : Plain) (journal : List journaled.Entry) (entry : journaled.Entry)
    → replay s (journal ++ entry ∷ []) ≡ (plain (replay s journal) entry.process entry.ring entry.request).state
replay_more s [] entry = refl
replay_more s (e ∷ journal) entry = replay_more (plain s e.process e.ring e.request).state journal entry

pub right_more : (s : Plain) (journal : List journaled.Entry) (entry : journaled.Entry) → IsRight s journal
    → IsRightEntry (replay s journal) entry → IsRight s (journal ++ entry ∷ [])
right_more s [] entry right is = (is, tt)
right_more s (e ∷ journal) entry right is =
    (right.0, right_more (plain s e.process e.ring e.request).state journal entry right.1 is)

-- where an entry of a longer journal stands
place_in : (journal : List journaled.Entry) (entry found : journaled.Entry) (place : ℕ) → slice_get (journal ++ entry ∷ []) place ≡ Some found
    → (slice_get journal place ≡ Some found) ⊎ (entry ≡ found)
place_in [] entry found zero e = inr (cc)
place_in [] entry found (suc place) e = absurd (cc)
place_in (first ∷ journal) entry found zero e = inl e
place_in (first ∷ journal) entry found (suc place) e = place_in journal entry found place e

pub kept_more : (x : Outline) (s s' : Plain) (journal journal' : List journaled.Entry) (entry : journaled.Entry)
    → IsKept x s journal → length journal < limit_of x → 1 ≤ entry.process → entry.process ≤ length x.principals
    → plain s entry.process entry.ring entry.request ≡ answer entry.reply s' → length s'.processes ≡ length s.processes
    → journal' ≡ journal ++ entry ∷ [] → IsKept x s' journal'
kept_more x s s' journal journal' entry k below some most told same more =
    let h = k.history in
    let n : length journal' ≡ length journal + 1 = ap length more ∙ length-append journal (entry ∷ []) in
    let here : IsRightEntry (replay (opening_of x) journal) entry = right_entry x s s' journal entry k some most told in
    record {
      session = k.session;
      state =
          sym (ap (λ a. a.state) told) ∙ ap (λ (p : Plain). (plain p entry.process entry.ring entry.request).state) k.state
          ∙ sym (replay_more (opening_of x) journal entry) ∙ ap (replay (opening_of x)) (sym more);
      processes = same ∙ k.processes;
      history = record {
        within_limit = omega (arith, n, below);
        right = subst (IsRight (opening_of x)) (sym more) (right_more (opening_of x) journal entry h.right here);
        begun = let b = h.begun in omega (arith, n, b);
        setup_first =
            ap (λ (j : List journaled.Entry). take (setup_entries x) (map call_of j)) more
            ∙ ap (take (setup_entries x)) (map-append call_of journal (entry ∷ []))
            ∙ take-append-le (setup_entries x) (map call_of journal) (call_of entry ∷ [])
            (let b = h.begun in let m = length-map journal call_of in omega (arith, b, m))
            ∙ h.setup_first;
        makers = λ place found past e. elim (place_in journal entry found place (ap (λ (j : List journaled.Entry). slice_get j place) (sym more) ∙ e)) [
          | inl old ↦ h.makers place found past old
          | inr new ↦ subst (λ (f : journaled.Entry). (1 ≤ f.process) × (f.process ≤ length x.principals)) new (some, most)
        ];
      };
    }
  where
    right_entry : (x : Outline) (s s' : Plain) (journal : List journaled.Entry) (entry : journaled.Entry) → IsKept x s journal
        → 1 ≤ entry.process → entry.process ≤ length x.principals → plain s entry.process entry.ring entry.request ≡ answer entry.reply s'
        → IsRightEntry (replay (opening_of x) journal) entry
    right_entry x s s' journal entry k some most told = subst (λ (p : Plain). IsRightEntry p entry) k.state
        (record {
          maker = (let n = k.processes in omega (arith, n, most), λ zero. absurd (omega (arith, some, zero)));
          reply = ap (λ a. a.reply) told;
        })

-- the entry of a number
pub entry_found : (journal : List journaled.Entry) (number : ℕ) (entry : journaled.Entry) → 1 ≤ number → slice_get journal (number - 1) ≡ Some entry
    → entry_at journal number ≡ Some entry
entry_found journal zero entry some e = absurd (omega (arith, some))
entry_found journal (suc place) entry some e = subst (λ n. slice_get journal n ≡ Some entry) (less place) e
  where
    less : (n : ℕ) → suc n - 1 ≡ n
    less n = omega arith

pub kept_entry : (x : Outline) (s s' : Plain) (journal middle journal' : List journaled.Entry) (p ring : ℕ) (request copied : Request) (reply : Reply)
    → IsKept x s journal → length journal < limit_of x → 1 ≤ p → p ≤ length x.principals
    → plain s p ring request ≡ answer reply s' → length s'.processes ≡ length s.processes → copied ≡ request → middle ≡ journal
    → journal' ≡ middle ++ record { process = p; ring = ring; request = copied; reply = reply } ∷ [] → IsKept x s' journal'
kept_entry x s s' journal middle journal' p ring request copied reply k below some most told processes same still more =
    kept_more x s s' journal journal' (record { process = p; ring = ring; request = request; reply = reply }) k below some most told processes
    (more ∙ rw (still, same) refl)

-- what came of an entry is told of the states after the journals
pub came_kept : (x : Outline) (s s' : Plain) (journal journal' : List journaled.Entry) (old : Supervised) (came : Entered)
    → IsKept x s journal → IsKept x s' journal' → supervised x journal ≡ old → AreChanges s s' came.changes
    → All (IsBounded (last_number s.version)) came.changes → AreGiven s s' came.given → AreFreed s s' came.freed
    → HasCome old (supervised x journal') came
came_kept x s s' journal journal' old came k k' is changes bounded given freed =
    let before : s ≡ state_of old = k.state ∙ ap state_of is in
    let after : s' ≡ state_of (supervised x journal') = k'.state in record {
      changes = subst (λ (z : Plain × Plain). AreChanges z.0 z.1 came.changes) (λ i. (before i, after i)) changes;
      bounded = subst (λ (z : Plain). All (IsBounded (last_number z.version)) came.changes) before bounded;
      given = subst (λ (z : Plain × Plain). AreGiven z.0 z.1 came.given) (λ i. (before i, after i)) given;
      freed = subst (λ (z : Plain × Plain). AreFreed z.0 z.1 came.freed) (λ i. (before i, after i)) freed;
    }
