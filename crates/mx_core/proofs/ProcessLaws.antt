-- Connect, Look, Acknowledge, Enter, LoadConnect, Leave and Join keep the invariant.
use Rattle.std.proofs.Common.{◌≡◌, ◌⊎◌, inl, inr, ℕ, ◌+◌, ◌<◌, ◌≤◌, true, List, [], refl, sym, subst, Option, Some, None, arith}
use Rattle.std.specs.Prelude.{◌==◌}
use Rattle.std.proofs.lemmas.Bool.{eqb-true}
use Rattle.mx_core.specs.AssociativeMemory.{IsAssociative}
use Rattle.mx_core.specs.Access.{IsGoodNote}
use Rattle.mx_core.specs.Entering.{next_turn, entered, connect_loaded, left}
use Rattle.mx_core.specs.Invariant.{Good}
use Rattle.mx_core.specs.Laws.{ConnectLaw, LookLaw, AcknowledgeLaw, EnterLaw, LoadConnectLaw, LeaveLaw, JoinLaw}
use Rattle.mx_core.specs.Notes.{told_by, joined}
use Rattle.mx_core.specs.Notions.{with_process}
use Rattle.mx_core.specs.Put.{pick, put}
use Rattle.mx_core.specs.Words.{Triple}
use Rattle.mx_core.specs.World.{Outside, Entering, Note, World}
use Rattle.mx_core.proofs.Access.{connect_access, look_access, acknowledge_access, away_access, load_connect_access}
use Rattle.mx_core.proofs.JudgingAccess.{join_access}
use Rattle.mx_core.proofs.Memories.{empty_associative}
use Rattle.mx_core.proofs.Parts.{good_process}
use Rattle.mx_core.proofs.Puts.{pick_all, put_all}

pub connect_law : ConnectLaw
connect_law w p g can = good_process w p (record (w.process p) { connect = w.length; look = 0 }) g
    (connect_access w p g.access can.pending
    (record { segno = can.changed.segno; changed = can.changed.changed; struck = can.struck }))
    (omega arith) (g.shape.memories p)

pub look_law : LookLaw
look_law w p g can = good_process w p (record (w.process p) { look = (w.process p).flag }) g
    (look_access w p g.access can.pending can.connected) (omega arith) (g.shape.memories p)

pub acknowledge_law : AcknowledgeLaw
acknowledge_law w p g can = good_process w p (record (w.process p) { acknowledged = true }) g
    (acknowledge_access w p g.access can.pending can.connected can.left) (omega arith) (g.shape.memories p)

some_turn : (turn : ℕ) → 0 < next_turn turn
some_turn turn =
    pick_all (λ (t : ℕ). 0 < t) (turn == 18446744073709551615) 1 (turn + 1) (λ e. omega arith) (λ e. omega arith)

pub enter_law : EnterLaw
enter_law w p g can = good_process w p (entered (w.process p) (next_turn (w.process p).turn)) g
    (away_access w p (next_turn (w.process p).turn) (next_turn (w.process p).turn) Entering g.access (λ r. r)
    (refl, some_turn (w.process p).turn))
    (omega arith) (g.shape.memories p)

pub leave_law : LeaveLaw
leave_law w p g can = good_process w p (left (w.process p)) g
    (away_access w p (w.process p).turn 0 Outside g.access (λ r. r) refl) (omega arith) (g.shape.memories p)

pub load_connect_law : LoadConnectLaw
load_connect_law w p g can = good_process w p (connect_loaded (w.process p)) g
    (load_connect_access w p memory g.access can.entering emptied) (omega arith) few
  where
    memory : List Triple
    memory = pick ((w.process p).connect == (w.process p).cleared) (w.process p).memory []

    emptied : (((w.process p).cleared ≡ (w.process p).connect) × (memory ≡ (w.process p).memory)) ⊎ (memory ≡ [])
    emptied = pick_all (λ (m : List Triple).
        (((w.process p).cleared ≡ (w.process p).connect) × (m ≡ (w.process p).memory)) ⊎ (m ≡ []))
        ((w.process p).connect == (w.process p).cleared) (w.process p).memory []
        (λ e. inl (sym (eqb-true (w.process p).connect (w.process p).cleared e), refl)) (λ e. inr refl)

    few : IsAssociative memory
    few = pick_all IsAssociative ((w.process p).connect == (w.process p).cleared) (w.process p).memory []
        (λ e. g.shape.memories p) (λ e. empty_associative)

-- the note is gone
without_note : (w : World) (i : ℕ) → Good w → Good (record w { note = put w.note i None })
without_note w i g = record {
  shape = let s = g.shape in record {
    limit = s.limit;
    admissible = s.admissible;
    nobody = s.nobody;
    more = s.more;
    beyond = s.beyond;
    words = s.words;
    idle_nobody = s.idle_nobody;
    idle_more = s.idle_more;
    reported = s.reported;
    marked = s.marked;
    memories = s.memories;
    notes = put_all (λ j o. w.made ≤ j → o ≡ None) w.note i None (λ l. refl) (λ j n. s.notes j);
  };
  access = let a = g.access in record {
    start_low = a.start_low;
    answered_low = a.answered_low;
    length_high = a.length_high;
    words = a.words;
    processes = a.processes;
    tolds = a.tolds;
    notes = put_all (λ j o. (n : Note) → o ≡ Some n → IsGoodNote w.start w.answered w.told n) w.note i None
        (λ n e. absurd (nothing n e)) (λ j n. a.notes j);
  };
  traces = g.traces;
  reads = g.reads;
  memory = g.memory;
}
  where
    nothing : (n : Note) → None ≡ Some n → ⊥
    nothing n e = cc

pub join_law : JoinLaw
join_law w p i g can = subst (λ (o : Option Note). Good (joined w p i o)) (sym can.note.at)
    (without_note (with_process w p (told_by (w.process p) can.note.note)) i
    (good_process w p (told_by (w.process p) can.note.note) g
    (join_access w p can.note.note g.access (g.access.notes i can.note.note can.note.at)) (omega arith)
    (g.shape.memories p)))
