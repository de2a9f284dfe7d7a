-- Descriptors that the test finds the same are equal, and others are not.
use Rattle.std.proofs.Common.{◌≡◌, ◌==◌, ◌&&◌, ℕ, eqb, Bool, true, false, IsTrue, refl, sym, subst}
use Rattle.std.proofs.lemmas.Bool.{eqb-true, eq-eqb, and_parts}
use Rattle.mx_sdw.specs.contracts.descriptors.AimPartialEq.TheImpl as aims
use Rattle.mx_sdw.specs.contracts.descriptors.DescKindPartialEq.TheImpl as kinds
use Rattle.mx_sdw.specs.contracts.descriptors.DescPartialEq.TheImpl as descs
use Rattle.std.specs.contracts.prelude.BoolPartialEq.TheImpl as flags
use Rattle.mx_sdw.specs.Descriptors.{Descriptor}
use Rattle.mx_sdw.specs.Rings.{Bracketing}
use Rattle.mx_sdw.specs.Same.{same_aim, same_kind, same_flag, same_brackets, same_desc}
use Rattle.mx_sdw.specs.declared.descriptors.Aim.{Aim}
use Rattle.mx_sdw.specs.declared.descriptors.Aim.TheVariants.{Equal, Dominates, Neither}
use Rattle.mx_sdw.specs.declared.descriptors.DescKind.{DescKind}
use Rattle.mx_sdw.specs.declared.descriptors.DescKind.TheVariants.{Unknown, Gone, Segment}

flag_is : (a b : Bool) → same_flag a b ≡ true → a ≡ b
flag_is true b e = sym e
flag_is false true e = cc
flag_is false false e = refl

aim_is : (a b : Aim) → same_aim a b ≡ true → a ≡ b
aim_is Equal Equal e = refl
aim_is Equal Dominates e = cc
aim_is Equal Neither e = cc
aim_is Dominates Equal e = cc
aim_is Dominates Dominates e = refl
aim_is Dominates Neither e = cc
aim_is Neither Equal e = cc
aim_is Neither Dominates e = cc
aim_is Neither Neither e = refl

kind_is : (a b : DescKind) → same_kind a b ≡ true → a ≡ b
kind_is Unknown Unknown e = refl
kind_is Unknown Gone e = cc
kind_is Unknown Segment e = cc
kind_is Gone Unknown e = cc
kind_is Gone Gone e = refl
kind_is Gone Segment e = cc
kind_is Segment Unknown e = cc
kind_is Segment Gone e = cc
kind_is Segment Segment e = refl

brackets_are : (a b : Bracketing) → same_brackets a b ≡ true → a ≡ b
brackets_are a b e =
    let p = and_parts (eqb a.r1 b.r1) _ e in
    let q = and_parts (eqb a.r2 b.r2) _ p.1 in
    whole a.r1 a.r2 a.r3 b.r1 b.r2 b.r3 (eqb-true a.r1 b.r1 p.0) (eqb-true a.r2 b.r2 q.0) (eqb-true a.r3 b.r3 q.1)
  where
    whole : (r s t x y z : ℕ) → r ≡ x → s ≡ y → t ≡ z
        → ◌≡◌ {A = Bracketing} (record { r1 = r; r2 = s; r3 = t }) (record { r1 = x; r2 = y; r3 = z })
    whole r s t x y z f g h = rw (f, g, h) refl

-- they are equal
pub descs_are : (a b : Descriptor) → same_desc a b ≡ true → a ≡ b
descs_are a b e =
    let p = and_parts (same_kind a.kind b.kind) _ e in
    let q = and_parts (same_brackets a.brackets b.brackets) _ p.1 in
    let r = and_parts (same_flag a.r b.r) _ q.1 in
    let s = and_parts (same_flag a.e b.e) _ r.1 in
    let t = and_parts (same_flag a.w b.w) _ s.1 in
    let u = and_parts (eqb a.gate b.gate) _ t.1 in
    let v = and_parts (eqb a.page b.page) _ u.1 in
    let z = and_parts (eqb a.bound b.bound) _ v.1 in
    λ i. record {
      kind = kind_is a.kind b.kind p.0 i;
      brackets = brackets_are a.brackets b.brackets q.0 i;
      r = flag_is a.r b.r r.0 i;
      e = flag_is a.e b.e s.0 i;
      w = flag_is a.w b.w t.0 i;
      gate = eqb-true a.gate b.gate u.0 i;
      page = eqb-true a.page b.page v.0 i;
      bound = eqb-true a.bound b.bound z.0 i;
      aim = aim_is a.aim b.aim z.1 i;
    }

aim_again : (a : Aim) → same_aim a a ≡ true
aim_again Equal = refl
aim_again Dominates = refl
aim_again Neither = refl

kind_again : (a : DescKind) → same_kind a a ≡ true
kind_again Unknown = refl
kind_again Gone = refl
kind_again Segment = refl

flag_again : (a : Bool) → same_flag a a ≡ true
flag_again true = refl
flag_again false = refl

desc_again : (a : Descriptor) → same_desc a a ≡ true
desc_again a =
    rw (
      kind_again a.kind,
      eq-eqb a.brackets.r1 a.brackets.r1 refl,
      eq-eqb a.brackets.r2 a.brackets.r2 refl,
      eq-eqb a.brackets.r3 a.brackets.r3 refl,
      flag_again a.r,
      flag_again a.e,
      flag_again a.w,
      eq-eqb a.gate a.gate refl,
      eq-eqb a.page a.page refl,
      eq-eqb a.bound a.bound refl,
      aim_again a.aim,
    ) refl

-- and others are not
pub descs_apart : (a b : Descriptor) → same_desc a b ≡ false → a ≡ b → ⊥
descs_apart a b differ same =
    let again : same_desc a b ≡ true = subst (λ c. same_desc a c ≡ true) same (desc_again a) in
    cc

-- the derived test is this one
aim_test : (a b : Aim) → (aims.ghosts).eq a b ≡ same_aim a b
aim_test Equal Equal = refl
aim_test Equal Dominates = refl
aim_test Equal Neither = refl
aim_test Dominates Equal = refl
aim_test Dominates Dominates = refl
aim_test Dominates Neither = refl
aim_test Neither Equal = refl
aim_test Neither Dominates = refl
aim_test Neither Neither = refl

kind_test : (a b : DescKind) → (kinds.ghosts).eq a b ≡ same_kind a b
kind_test Unknown Unknown = refl
kind_test Unknown Gone = refl
kind_test Unknown Segment = refl
kind_test Gone Unknown = refl
kind_test Gone Gone = refl
kind_test Gone Segment = refl
kind_test Segment Unknown = refl
kind_test Segment Gone = refl
kind_test Segment Segment = refl

flag_test : (a b : Bool) → (flags.ghosts).eq a b ≡ same_flag a b
flag_test true true = refl
flag_test true false = refl
flag_test false true = refl
flag_test false false = refl

pub desc_test : (a b : Descriptor) (result : Bool) → result ≡ (descs.ghosts).eq a b → result ≡ same_desc a b
desc_test a b result e = subst (λ test. result ≡ test) same e
  where
    same : (descs.ghosts).eq a b ≡ same_desc a b
    same = λ i.
        kind_test a.kind b.kind i
        && (same_brackets a.brackets b.brackets
        && (flag_test a.r b.r i && (flag_test a.e b.e i && (flag_test a.w b.w i
        && ((a.gate == b.gate) && ((a.page == b.page) && ((a.bound == b.bound) && aim_test a.aim b.aim i)))))))

pub desc_tested : (a b : Descriptor) (result : Bool) → result ≡ same_desc a b → (IsTrue result → a ≡ b) × (a ≡ b → IsTrue result)
desc_tested a b true e = (λ yes. descs_are a b (sym e), λ same. refl)
desc_tested a b false e = (λ yes. cc, λ same. absurd (descs_apart a b (sym e) same))
