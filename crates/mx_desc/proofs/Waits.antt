-- A look or an acknowledgement leaves the supervisor waiting as before.
use Rattle.std.proofs.Common.{◌≡◌, ℕ, ◌∷◌, Bool, true, false, refl, sym, ap, subst, rules}
use Rattle.std.specs.Prelude.{IsTrue}
use Rattle.mx_core.specs.Put.{pick, put}
use Rattle.mx_core.proofs.Puts.{put_all, put_here}
use Rattle.mx_rule.specs.Acknowledging.{MayAcknowledge, has_left, acknowledged_view, looked_view, noticed_view}
use Rattle.mx_rule.specs.Shown.{marked, numbers_of, office_of}
use Rattle.mx_rule.specs.declared.views.SuperView.{SuperView}
use Rattle.mx_desc.specs.Supers.{IsWaiting}

is_true : IsTrue true
is_true = search rules

pub waits_from : {S : Type 0} (v : SuperView S) → IsWaiting v v
waits_from v = record { looks = v.looks; acknowledged = v.acknowledged; after = refl; kept = λ p h. h }

pub may_look : {S : Type 0} (v v' : SuperView S) (p : ℕ) → IsWaiting v v' → MayAcknowledge (office_of v) p
    → MayAcknowledge (office_of v') p
may_look {S = S} v v' p w may = subst (λ (u : SuperView S). MayAcknowledge (office_of u) p) (sym w.after)
    (record { low = may.low; high = may.high; pending = may.pending; connected = may.connected })

still_marked : (f : ℕ → Bool) (p q : ℕ) → IsTrue (f q) → IsTrue (put f p true q)
still_marked f p q = put_all (λ j (b : Bool). IsTrue (f j) → IsTrue b) f p true (λ h. is_true) (λ j n h. h) q

noticed_by : {S : Type 0} (v v' : SuperView S) (p n : ℕ) (left : Bool) → IsWaiting v v'
    → IsWaiting v (pick left (acknowledged_view p v') (looked_view p n v'))
noticed_by v v' p n true w = record {
  looks = w.looks;
  acknowledged = p ∷ w.acknowledged;
  after = ap (acknowledged_view p) w.after;
  kept = λ q h. still_marked (marked v'.acknowledged) p q (w.kept q h);
}
noticed_by v v' p n false w = record {
  looks = (record { process = p; number = n }) ∷ w.looks;
  acknowledged = w.acknowledged;
  after = ap (looked_view p n) w.after;
  kept = λ q h. w.kept q h;
}

pub still_waits : {S : Type 0} (v v' u : SuperView S) (p n : ℕ) → IsWaiting v v' → u ≡ noticed_view p n v'
    → IsWaiting v u
still_waits v v' u p n w is =
    subst (IsWaiting v) (sym is) (noticed_by v v' p n (has_left n (numbers_of 0 v'.looks p)) w)

left_by : {S : Type 0} (v' : SuperView S) (p n : ℕ) (left : Bool) → left ≡ true
    → IsTrue ((office_of (pick left (acknowledged_view p v') (looked_view p n v'))).acknowledged p)
left_by v' p n true e = subst IsTrue (sym (put_here (marked v'.acknowledged) p true)) is_true
left_by v' p n false e = cc

pub has_gone : {S : Type 0} (v' u : SuperView S) (p n : ℕ) → u ≡ noticed_view p n v'
    → has_left n (numbers_of 0 v'.looks p) ≡ true → IsTrue ((office_of u).acknowledged p)
has_gone {S = S} v' u p n is left = subst (λ (x : SuperView S). IsTrue ((office_of x).acknowledged p)) (sym is)
    (left_by v' p n (has_left n (numbers_of 0 v'.looks p)) left)
