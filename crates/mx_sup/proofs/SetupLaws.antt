-- The setup is entered request by request.
use Rattle.std.proofs.Common.{◌≡◌, ℕ, zero, suc, ◌<◌, ◌+◌, ◌^◌, List, [], ◌∷◌, ◌++◌, map, take, length, Some, refl, sym, ◌∙◌, ap, subst, arith, length-append}
use Rattle.std.proofs.lemmas.List.{map-append}
use Rattle.std.proofs.lemmas.Option.{slice_get_within}
use Rattle.std.specs.List.{slice_get}
use Rattle.mx_transcript.specs.Legal.{Call, call_of, setup_call, setup_entries}
use Rattle.mx_transcript.specs.Scripts.{first_line}
use Rattle.mx_transcript.specs.Transcripts.{Step}
use Rattle.mx_request.specs.declared.replies.Reply.{Reply}
use Rattle.mx_request.specs.declared.requests.Request.{Request}
use Rattle.mx_script.specs.Sessions.{Outline, IsSession}
use Rattle.mx_transcript.specs.Opened.{opening_of}
use Rattle.mx_state.specs.History.{replay, IsRight, IsRightEntry, MayAsk}
use Rattle.mx_state.specs.Plain.{Plain, answer}
use Rattle.mx_state.specs.Requests.{plain}
use Rattle.mx_state.specs.declared.journal.Entry as journaled
use Rattle.mx_sup.proofs.HistoryLaws.{replay_more, right_more}
use Rattle.mx_sup.proofs.PartLaws.{part_is_set_up}
use Rattle.mx_sup.specs.Entering.{IsOpened}
use Rattle.mx_sup.specs.Setups.{HasSetUp, IsEntered, setup_entry, setup_part}
use Rattle.mx_sup.specs.Supervised.{supervised, IsHistory, IsKept}
use Rattle.mx_ties.specs.Ran.{IsSetUp}

take_next : (xs : List Request) (i : ℕ) (request : Request) → slice_get xs i ≡ Some request
    → take i (map setup_call xs) ++ setup_call request ∷ [] ≡ take (suc i) (map setup_call xs)
take_next [] i request e = absurd (cc)
take_next (x ∷ xs) zero request e = cc
take_next (x ∷ xs) (suc i) request e = ap (λ calls. setup_call x ∷ calls) (take_next xs i request e)

pub set_up_on : (x : Outline) (count : ℕ) (state state' : Plain) (journal journal' : List journaled.Entry) (request : Request)
    → slice_get x.setup count ≡ Some request → IsEntered request state journal state' journal'
    → HasSetUp x count state journal → HasSetUp x (count + 1) state' journal'
set_up_on x count state state' journal journal' request at is before =
    let entry : journaled.Entry = setup_entry request is.reply in
    let here : IsRightEntry (replay (opening_of x) journal) entry = subst (λ s. IsRightEntry s entry) before.state is.right in
    record {
      many = ap length is.entry ∙ length-append journal (entry ∷ []) ∙ ap (λ n. n + 1) before.many;
      right = subst (IsRight (opening_of x)) (sym is.entry) (right_more (opening_of x) journal entry before.right here);
      state =
          is.state ∙ ap (λ (s : Plain). (plain s 0 0 request).state) before.state
          ∙ sym (replay_more (opening_of x) journal entry) ∙ ap (replay (opening_of x)) (sym is.entry);
      processes = is.processes ∙ before.processes;
      calls =
          ap (map call_of) is.entry ∙ map-append call_of journal (entry ∷ [])
          ∙ ap (λ (calls : List Call). calls ++ setup_call request ∷ []) before.calls
          ∙ take_next x.setup count request at ∙ ap (λ n. take n (map setup_call x.setup)) (next count);
    }
  where
    next : (n : ℕ) → suc n ≡ n + 1
    next n = omega arith

pub entered_one : (s s' : Plain) (request copied : Request) (ring : ℕ) (reply : Reply) (journal journal' : List journaled.Entry)
    → ring ≡ 0 → copied ≡ request → MayAsk s 0 request → plain s 0 ring request ≡ answer reply s' → length s'.processes ≡ length s.processes
    → journal' ≡ journal ++ record { process = 0; ring = ring; request = copied; reply = reply } ∷ []
    → IsEntered request s journal s' journal'
entered_one s s' request copied ring reply journal journal' inner same may told processes more =
    let told' : plain s 0 0 request ≡ answer reply s' = ap (λ r. plain s 0 r request) (sym inner) ∙ told in
    record {
      reply = reply;
      right = record { maker = may; reply = ap (λ a. a.reply) told' };
      state = sym (ap (λ a. a.state) told');
      processes = processes;
      entry = more ∙ ap (λ (e : journaled.Entry). journal ++ e ∷ []) (rw (inner, same) refl);
    }

-- after the whole setup
pub opened_history : (x : Outline) (s : Plain) (journal : List journaled.Entry) → HasSetUp x (setup_entries x) s journal
    → IsHistory (supervised x journal)
opened_history x s journal h = record {
  within_limit = omega (arith, h.many);
  right = h.right;
  begun = omega (arith, h.many);
  setup_first = ap (take (setup_entries x)) h.calls ∙ twice (setup_entries x) (map setup_call x.setup);
  makers = λ place entry past e. absurd (omega (arith, h.many, past, slice_get_within journal place entry e));
}
  where
    twice : (n : ℕ) (xs : List Call) → take n (take n xs) ≡ take n xs
    twice zero xs = refl
    twice (suc n) [] = refl
    twice (suc n) (x ∷ xs) = ap (λ (l : List Call). x ∷ l) (twice n xs)

pub opened_kept : (x : Outline) (s : Plain) (journal : List journaled.Entry) → IsSession x → HasSetUp x (setup_entries x) s journal → IsKept x s journal
opened_kept x s journal session h = record {
  session = session;
  state = h.state;
  processes = h.processes;
  history = opened_history x s journal h;
}

pub opened : (x : Outline) (s : Plain) (journal : List journaled.Entry) (steps : List Step) → HasSetUp x (setup_entries x) s journal
    → steps ≡ setup_part x journal → IsOpened x (supervised x journal) steps
opened x s journal steps h e = record {
  session = refl;
  only = h.many;
  history = opened_history x s journal h;
  part = subst (IsSetUp x journal) (sym e) (part_is_set_up x journal h.many h.calls h.right);
}

-- line numbers have 32 bits
pub small : (x : Outline) (i : ℕ) → IsSession x → i < length x.setup → first_line x 0 + i + 1 < 2 ^ 32
small x i s h = let l = s.lines in omega (arith, l, h)
