-- A journal that is right is right at each of its entries, and its replay goes on entry by entry.
use Rattle.std.proofs.Common.{◌≡◌, ℕ, zero, suc, ◌+◌, ◌<◌, min, List, [], ◌∷◌, ◌++◌, take, length, Some, sym, ◌∙◌, ap, subst, arith}
use Rattle.std.proofs.lemmas.List.{take_min}
use Rattle.std.proofs.lemmas.List.Elements.{All-append, All-cons, All-nil}
use Rattle.std.specs.List.{slice_get}
use Rattle.std.specs.Prelude.{Result, Ok, Err, OnOk, is_ok, if◌then◌else◌}
use Rattle.mx_transcript.specs.Opened.{opening_of}
use Rattle.mx_request.specs.declared.replies.Reply.{Reply}
use Rattle.mx_script.specs.Sessions.{Outline}
use Rattle.mx_state.specs.DecidingEntry.{entry_behind}
use Rattle.mx_state.specs.History.{replay, MayAsk, IsRight, IsRightEntry}
use Rattle.mx_state.specs.Plain.{Plain, answer}
use Rattle.mx_state.specs.Requests.{plain}
use Rattle.mx_state.specs.Table.{descriptor}
use Rattle.mx_state.specs.declared.journal.Entry as journaled
use Rattle.mx_judging.specs.Judging.{IsAccess, AreAccesses}
use Rattle.mx_judging.specs.Replays.{Replayed, replayed, IsReplay}
use Rattle.mx_judging.specs.declared.replays.Judged.{Judged}

right_at : (s : Plain) (journal : List journaled.Entry) (n : ℕ) (entry : journaled.Entry) → IsRight s journal
    → slice_get journal n ≡ Some entry → IsRightEntry (replay s (take n journal)) entry
right_at s [] n entry right found = absurd (cc)
right_at s (first ∷ journal) zero entry right found = subst (IsRightEntry s) (same first entry found) right.0
  where
    same : (a b : journaled.Entry) → Some a ≡ Some b → a ≡ b
    same a b e = cc
right_at s (first ∷ journal) (suc n) entry right found =
    right_at (plain s first.process first.ring first.request).state journal n entry right.1 found

replay_next : (s : Plain) (journal : List journaled.Entry) (n : ℕ) (entry : journaled.Entry) → slice_get journal n ≡ Some entry
    → replay s (take (suc n) journal) ≡ (plain (replay s (take n journal)) entry.process entry.ring entry.request).state
replay_next s [] n entry found = absurd (cc)
replay_next s (first ∷ journal) zero entry found =
    ap (λ (e : journaled.Entry). (plain s e.process e.ring e.request).state) (same first entry found)
  where
    same : (a b : journaled.Entry) → Some a ≡ Some b → a ≡ b
    same a b e = cc
replay_next s (first ∷ journal) (suc n) entry found =
    replay_next (plain s first.process first.ring first.request).state journal n entry found

-- the maker of the next entry may make it
pub next_may_ask : (r : Replayed) (state : Plain) (entry : journaled.Entry) → IsReplay r state → slice_get r.journal r.at ≡ Some entry
    → MayAsk state entry.process entry.request
next_may_ask r state entry is found =
    subst (λ (s : Plain). MayAsk s entry.process entry.request) (sym is.state_is)
    (right_at (opening_of r.session) r.journal r.at entry is.right found).maker

-- one entry more
pub replay_step : (r : Replayed) (state state' : Plain) (entry : journaled.Entry) (reply : Reply) → IsReplay r state
    → r.at < length r.journal → slice_get r.journal r.at ≡ Some entry
    → plain state entry.process entry.ring entry.request ≡ answer reply state' → length state'.processes ≡ length state.processes
    → IsReplay (replayed r.session r.journal (r.at + 1)) state'
replay_step r state state' entry reply is below found told same = record {
  right = is.right;
  within = omega (arith, below);
  state_is =
      sym (ap (λ a. a.state) told)
      ∙ ap (λ (s : Plain). (plain s entry.process entry.ring entry.request).state) is.state_is
      ∙ sym (replay_next (opening_of r.session) r.journal r.at entry found)
      ∙ ap (λ (n : ℕ). replay (opening_of r.session) (take n r.journal)) (one_more r.at);
  processes = same ∙ is.processes;
}
  where
    one_more : (n : ℕ) → suc n ≡ n + 1
    one_more n = omega arith

-- the access there is the one at the point
pub access_there : (r : Replayed) (state : Plain) (point p n : ℕ) → IsReplay r state → r.at ≡ min point (length r.journal)
    → descriptor state p n ≡ descriptor (replay (opening_of r.session) (take point r.journal)) p n
access_there r state point p n is at =
    ap (λ (s : Plain). descriptor s p n)
    (is.state_is ∙ ap (replay (opening_of r.session)) (ap (λ (a : ℕ). take a r.journal) at ∙ take_min point r.journal))

-- and so is the entry
pub entry_there : (r : Replayed) (state : Plain) (point p n : ℕ) → IsReplay r state → r.at ≡ min point (length r.journal)
    → entry_behind state p n ≡ entry_behind (replay (opening_of r.session) (take point r.journal)) p n
entry_there r state point p n is at =
    ap (λ (s : Plain). entry_behind s p n)
    (is.state_is ∙ ap (replay (opening_of r.session)) (ap (λ (a : ℕ). take a r.journal) at ∙ take_min point r.journal))

-- one reference more
pub judged_more : {T E : Type 0} (r : Result T E) (x : Outline) (journal : List journaled.Entry) (old new : List Judged) (j : Judged)
    → AreAccesses x journal old → IsAccess x journal j → new ≡ (if is_ok r then old ++ j ∷ [] else old)
    → OnOk r (AreAccesses x journal new)
judged_more (Ok u) x journal old new j all one e =
    subst (AreAccesses x journal) (sym e)
    (All-append (IsAccess x journal) old (j ∷ []) all (All-cons (IsAccess x journal) j [] one (All-nil (IsAccess x journal))))
judged_more (Err e') x journal old new j all one e = tt
