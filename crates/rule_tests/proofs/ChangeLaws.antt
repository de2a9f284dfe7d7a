-- A change of one pair goes on a step at a time.
use Rattle.std.proofs.Common.{◌≡◌, ◌≢◌, inl, inr, ℕ, zero, suc, ◌+◌, ◌<◌, ◌≤◌, IsTrue, List, [], ◌∷◌, refl, ap, sym, ◌∙◌, subst, slice_get, Some, true, arith}
use Rattle.std.proofs.lemmas.Bool.{cases_eq}
use Rattle.mx_sdw.specs.Admissible.{IsAdmissible}
use Rattle.mx_sdw.specs.Descriptors.{Descriptor}
use Rattle.mx_core.specs.Put.{put}
use Rattle.mx_core.specs.declared.changes.Change.{Change}
use Rattle.mx_core.specs.declared.changes.Run.{Run}
use Rattle.mx_core.specs.declared.words.DescriptorWord.{DescriptorWord}
use Rattle.mx_core.specs.declared.words.DescriptorWord.TheVariants.{Fault}
use Rattle.mx_core.proofs.Puts.{put_here, put_else}
use Rattle.mx_rule.specs.Acknowledging.{MayConnect, connecting_view, MayAcknowledge, acknowledged_view, looked_view, MayAnswer, answered_view}
use Rattle.mx_rule.specs.Appending.{MayAppend, appended_view}
use Rattle.mx_rule.specs.Dealing.{opening_view, dealing_view}
use Rattle.mx_rule.specs.Notes.{noting_view}
use Rattle.mx_rule.specs.Shown.{Office, office_of}
use Rattle.mx_rule.specs.Striking.{Changes, MayStrike, struck_view, MaySettle, settled_view}
use Rattle.mx_rule.specs.declared.views.SuperView.{SuperView}
use Rattle.mx_desc.specs.Supers.{IsWaiting}
use Rattle.rule_tests.specs.Changing.{HasPair, IsAtRest, IsChanging, IsStruck, IsConnected, HasLeft, IsUnsettled, present}

pub first_is : (c a : Change) (i : ℕ) → slice_get (c ∷ []) i ≡ Some a → (i ≡ 0) × (c ≡ a)
first_is c a zero e = (refl, cc)
first_is c a (suc i) e = cc

pub no_run : (i : ℕ) (a : Run) → slice_get {X = Run} [] i ≡ Some a → ⊥
no_run i a e = cc

-- the pending entry changes this pair, and no other
pub record ChangesAlone (x : Office) (p n : ℕ) : Type 0 where
  pub changed : Changes x p n
  pub only : (q m : ℕ) → Changes x q m → (q ≡ p) × (m ≡ n)

module _ {E : Type 0} (v : SuperView E) where
  abbrev x : Office
  x = office_of v

  pub may_append : (p n : ℕ) (d : Descriptor) → IsAtRest x → HasPair x p n → v.length < 262143 → IsAdmissible d
      → MayAppend x 1 (record { process = p; segno = n; desc = d } ∷ []) []
  may_append p n d rest pair room admissible =
      let c : Change = record { process = p; segno = n; desc = d } in
      let low = pair.low in let high = pair.high in record {
        low = omega arith;
        high = omega arith;
        each = λ i a e. subst (λ (b : Change). (1 ≤ b.process) × (b.process ≤ v.processes) × (b.segno < v.numbers)
            × IsAdmissible b.desc) (first_is c a i e).1 (pair.low, pair.high, pair.number, admissible);
        pair_once = λ i j a b e e' s t. (first_is c a i e).0 ∙ sym (first_is c b j e').0;
        pages = λ i a e. absurd (no_run i a e);
        page_once = λ i j page a b e e' s t. absurd (no_run i a e);
        limit = room;
        rest = rest.rest;
        clear = λ page given cell is. cc;
        covered = λ page covered. rest.ready page;
      }

  -- an entry that changes one pair changes no other, whatever it gives out
  pub changed_alone : (p n who : ℕ) (d : Descriptor) (given : List Run) (entry : E) → v.answered ≡ v.length
      → present x p n ≢ d
      → ChangesAlone (office_of (appended_view who (record { process = p; segno = n; desc = d } ∷ []) given entry v))
      p n
  changed_alone p n who d given entry same other =
      let t = x.table v.length in
      let f = put t p (put (t p) n d) in
      let now : put x.table (v.length + 1) f (v.length + 1) ≡ f = put_here x.table (v.length + 1) f in
      let before : put x.table (v.length + 1) f v.answered ≡ t =
      put_else x.table (v.length + 1) f v.answered (λ e. omega arith) ∙ ap x.table same in record {
        changed = λ e. other (sym (sym (ap (λ (g : ℕ → _). g n) (put_here t p (put (t p) n d))
            ∙ put_here (t p) n d) ∙ sym (ap (λ (g : ℕ → ℕ → _). g p n) now) ∙ e ∙ ap (λ (g : ℕ → ℕ → _). g p n) before));
        only = λ q m change. elim (cases_eq q p) [
          | inr ne ↦ absurd (change (ap (λ (g : ℕ → ℕ → _). g q m) now
              ∙ ap (λ (g : ℕ → _). g m) (put_else t p (put (t p) n d) q ne)
              ∙ sym (ap (λ (g : ℕ → ℕ → _). g q m) before)))
          | inl e ↦ elim (cases_eq m n) [
            | inl e' ↦ (e, e')
            | inr ne ↦ absurd (change (ap (λ (g : ℕ → ℕ → _). g q m) now
                ∙ ap (λ (g : ℕ → _). g m) (ap f e ∙ put_here t p (put (t p) n d))
                ∙ put_else (t p) n d m ne ∙ ap (λ (r : ℕ). t r m) (sym e)
                ∙ sym (ap (λ (g : ℕ → ℕ → _). g q m) before)))
          ]
        ];
      }

  pub appended : (p n who : ℕ) (d : Descriptor) (entry : E) → IsAtRest x → HasPair x p n → present x p n ≢ d
      → IsChanging (office_of (appended_view who (record { process = p; segno = n; desc = d } ∷ []) [] entry v)) p n
  appended p n who d entry rest pair other =
      let low = rest.low in let high = rest.rest in
      let alone = changed_alone p n who d [] entry (omega arith) other in record {
        pair = record { low = pair.low; high = pair.high; number = pair.number };
        pending = omega arith;
        changed = alone.changed;
        only = alone.only;
        ready = rest.ready;
      }

  pub appended_present : (p n who : ℕ) (d : Descriptor) (entry : E)
      → present (office_of (appended_view who (record { process = p; segno = n; desc = d } ∷ []) [] entry v))
      ≡ put (present x) p (put (present x p) n d)
  appended_present p n who d entry = put_here x.table (v.length + 1) _

  pub may_strike : (p n : ℕ) → IsChanging x p n → MayStrike x p n
  may_strike p n c = record {
    low = c.pair.low;
    high = c.pair.high;
    number = c.pair.number;
    pending = c.pending;
    changed = c.changed;
  }

  pub struck : (p n : ℕ) → IsChanging x p n → IsStruck (office_of (struck_view p n v)) p n
  struck p n c = record {
    changing = record {
      pair = record { low = c.pair.low; high = c.pair.high; number = c.pair.number };
      pending = c.pending;
      changed = c.changed;
      only = c.only;
      ready = c.ready;
    };
    struck = ap (λ (g : ℕ → DescriptorWord). g n) (put_here x.word p (put (x.word p) n (Fault v.length)))
        ∙ put_here (x.word p) n (Fault v.length);
  }

  pub may_connect : (p n : ℕ) → IsStruck x p n → MayConnect x p
  may_connect p n s = record {
    low = s.changing.pair.low;
    high = s.changing.pair.high;
    pending = s.changing.pending;
    segno = n;
    changed = s.changing.changed;
    struck = λ m change. ap (x.word p) (s.changing.only p m change).1 ∙ s.struck;
  }

  pub connected : (p n : ℕ) → IsStruck x p n → IsConnected (office_of (connecting_view p v)) p n
  connected p n s = record {
    struck = record {
      changing = record {
        pair = record { low = s.changing.pair.low; high = s.changing.pair.high; number = s.changing.pair.number };
        pending = s.changing.pending;
        changed = s.changing.changed;
        only = s.changing.only;
        ready = s.changing.ready;
      };
      struck = s.struck;
    };
    connect = put_here x.connect p v.length;
  }

  pub may_acknowledge : (p n : ℕ) → IsConnected x p n → MayAcknowledge x p
  may_acknowledge p n c = let k = c.struck.changing in
      record { low = k.pair.low; high = k.pair.high; pending = k.pending; connected = c.connect }

  pub looked : (p n flag : ℕ) → IsConnected x p n → IsConnected (office_of (looked_view p flag v)) p n
  looked p n flag c = let k = c.struck.changing in record {
    struck = record {
      changing = record {
        pair = record { low = k.pair.low; high = k.pair.high; number = k.pair.number };
        pending = k.pending;
        changed = k.changed;
        only = k.only;
        ready = k.ready;
      };
      struck = c.struck.struck;
    };
    connect = c.connect;
  }

  pub left : (p n : ℕ) → IsConnected x p n → HasLeft (office_of (acknowledged_view p v)) p n
  left p n c = let k = c.struck.changing in record {
    connected = record {
      struck = record {
        changing = record {
          pair = record { low = k.pair.low; high = k.pair.high; number = k.pair.number };
          pending = k.pending;
          changed = k.changed;
          only = k.only;
          ready = k.ready;
        };
        struck = c.struck.struck;
      };
      connect = c.connect;
    };
    acknowledged = put_here x.acknowledged p true;
  }

  pub may_answer : (p n : ℕ) → HasLeft x p n → MayAnswer x
  may_answer p n h = let k = h.connected.struck.changing in record {
    pending = k.pending;
    struck = λ q m change. let o = k.only q m change in
        (λ i. x.word (o.0 i) (o.1 i)) ∙ h.connected.struck.struck;
    acknowledged = λ q m change. subst (λ (r : ℕ). IsTrue (x.acknowledged r)) (sym (k.only q m change).0)
        h.acknowledged;
  }

  pub answered : (p n : ℕ) → HasLeft x p n → IsUnsettled (office_of (answered_view v)) p n
  answered p n h = let k = h.connected.struck.changing in record {
    pair = record { low = k.pair.low; high = k.pair.high; number = k.pair.number };
    rest = record { low = omega arith; rest = omega arith; ready = k.ready };
    fault = h.connected.struck.struck;
  }

  pub may_settle : (p n : ℕ) → IsUnsettled x p n → MaySettle x p n v.length
  may_settle p n u = record {
    low = u.pair.low;
    high = u.pair.high;
    number = u.pair.number;
    rest = u.rest.rest;
    fault = u.fault;
  }

  pub settled : (p n by : ℕ) → IsUnsettled x p n → IsAtRest (office_of (settled_view p n by v))
  settled p n by u = record { low = u.rest.low; rest = u.rest.rest; ready = u.rest.ready }

  pub noted : (p n : ℕ) → IsUnsettled x p n → IsUnsettled (office_of (noting_view v)) p n
  noted p n u = record {
    pair = record { low = u.pair.low; high = u.pair.high; number = u.pair.number };
    rest = record { low = u.rest.low; rest = u.rest.rest; ready = u.rest.ready };
    fault = u.fault;
  }

  pub dealt : IsAtRest x → IsAtRest (office_of (dealing_view v))
  dealt r = record { low = r.low; rest = r.rest; ready = r.ready }

pub opens_at_rest : (E : Type 0) (processes numbers start : ℕ) (base : List Change)
    → IsAtRest (office_of {E = E} (opening_view processes numbers start base))
opens_at_rest E processes numbers start base =
    record { low = omega arith; rest = omega arith; ready = λ page. refl }

-- while the supervisor waits, what is connected stays so
pub waited : {E : Type 0} (v v' : SuperView E) (p n : ℕ) → IsConnected (office_of v) p n → IsWaiting v v'
    → IsTrue ((office_of v').acknowledged p) → HasLeft (office_of v') p n
waited v v' p n c w acknowledged = let k = c.struck.changing in record {
  connected = subst (λ (u : SuperView _). IsConnected (office_of u) p n) (sym w.after) (record {
    struck = record {
      changing = record {
        pair = record { low = k.pair.low; high = k.pair.high; number = k.pair.number };
        pending = k.pending;
        changed = k.changed;
        only = k.only;
        ready = k.ready;
      };
      struck = c.struck.struck;
    };
    connect = c.connect;
  });
  acknowledged = acknowledged;
}
