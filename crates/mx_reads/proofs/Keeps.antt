-- What is right of reads and cells stays right.
use Rattle.std.proofs.Common.{◌≡◌, ◌≢◌, inl, inr, ℕ, ◌+◌, ◌<◌, ◌≤◌, List, [], ◌∷◌, ◌++◌, length, refl, ap, sym, ◌∙◌, subst, Some, arith}
use Rattle.std.specs.Prelude.{Bool, IsTrue}
use Rattle.std.specs.List.{slice_get}
use Rattle.std.proofs.lemmas.Bool.{cases_eq}
use Rattle.std.proofs.lemmas.Option.{slice_get_within}
use Rattle.std.proofs.lemmas.List.{length-append}
use Rattle.mx_reads.specs.Deeds.{CellUse, Deed, Deeds, Enters, Stores, Loads, Refers, Misses}
use Rattle.mx_reads.specs.Growth.{Extends, IsWithin, AreWithin, IsQuiet, IsQuietWithin}
use Rattle.mx_reads.specs.Held.{Held, IsHeld, AreRight}
use Rattle.mx_reads.specs.KeepLaws.{IsNew, QuietLaw, StoreLaw}
use Rattle.mx_reads.specs.ReadRule.{Fronts, known_by, Reading, HasRead, IsRightRead}
use Rattle.mx_reads.specs.Sightings.{Source, HasStored, Sights, IsLatest}
use Rattle.mx_reads.proofs.CellUses.{same_cell}
use Rattle.mx_reads.proofs.Moves.{IsApart, read_forth, held_apart}
use Rattle.mx_reads.proofs.Places.{place_kept, place_found, place_last}

within_more : (bound bound' : ℕ) (d : Deed) → bound ≤ bound' → IsWithin bound d → IsWithin bound' d
within_more bound bound' (Enters number) more w = tt
within_more bound bound' (Stores cell value point) more w = omega arith
within_more bound bound' (Loads cell value writer stamp point) more w = omega arith
within_more bound bound' (Refers point) more w = omega arith
within_more bound bound' (Misses segno by) more w = tt

quiet_apart : (d : Deed) (cell : CellUse) → IsQuiet d → IsApart cell d
quiet_apart (Enters number) cell q = tt
quiet_apart (Stores own value point) cell q = absurd q
quiet_apart (Loads own value writer stamp point) cell q = absurd q
quiet_apart (Refers point) cell q = tt
quiet_apart (Misses segno by) cell q = tt

-- a read as a deed
abbrev pub load_of : Reading → Deed
load_of read = Loads read.cell read.value read.writer read.stamp read.point

-- nobody but the processes below the count does anything
pub idle_still : (count bound p : ℕ) (old new : Deeds) (front front' : Fronts) (Fresh : Deed → Type 0) → p < count
    → Extends bound old front new front' p Fresh
    → ((u : ℕ) → count ≤ u → length (old u) ≡ 0) → (u : ℕ) → count ≤ u → length (new u) ≡ 0
idle_still count bound p old new front front' Fresh own g idle u out =
    let before = idle u out in
    elim (cases_eq u p) [
      | inl e ↦ absurd (omega arith)
      | inr n ↦ g.length_others u n ∙ before
    ]

-- an old read is right still
pub reads_still : (bound : ℕ) (old new : Deeds) (front front' : Fronts) (p : ℕ) (Fresh : Deed → Type 0)
    (source source' : Source)
    → (g : Extends bound old front new front' p Fresh) → AreWithin bound old
    → ((u q : ℕ) → q ≤ bound → front u q ≤ length (old u))
    → ((u h : ℕ) → h < length (old u) → source' u h ≡ source u h)
    → ((read : Reading) → HasRead old read → IsRightRead old (known_by front) source read)
    → ((read : Reading) → read.process ≡ p → read.place ≡ length (old p) → Fresh (load_of read)
    → IsRightRead new (known_by front') source' read)
    → (read : Reading) → HasRead new read → IsRightRead new (known_by front') source' read
reads_still bound old new front front' p Fresh source source' g within low agree right here read h =
    elim (g.found read.process read.place (load_of read) h) [
      | inl a ↦
          let at = slice_get_within (old read.process) read.place (load_of read) a in
          read_forth bound old front new front' p Fresh g within low source source' agree read (omega arith)
          (within read.process read.place (load_of read) a) (agree read.process read.place at) (right read a)
      | inr b ↦ here read b.0 b.1 b.2
    ]

-- what nobody stored in is as its zero says
pub held_new : (done : Deeds) (front : Fronts) (source : Source) (cell : CellUse) (held : Held) → IsNew done cell held
    → IsHeld done front source cell held
held_new done front source cell held is = record {
  zero_value = λ e. is.value;
  zero_stamp = λ e. is.stamp;
  unwritten = λ e. is.empty;
  place = 0;
  stored = λ some. absurd (some is.writer);
  last = λ some. absurd (some is.writer);
  unseen = λ some. absurd (some is.writer);
  onward = λ some. absurd (some is.writer);
}

pub quiet_law : QuietLaw
quiet_law count bound bound' p old new front front' present present' memory own more g low' given are = record {
  within = λ u i d h. elim (g.found u i d h) [
    | inl a ↦ within_more bound bound' d more (are.within u i d a)
    | inr b ↦ b.2.within
  ];
  low = low';
  idle = idle_still count bound p old new front front' (IsQuietWithin bound') own g are.idle;
  source = are.source;
  right = reads_still bound old new front front' p (IsQuietWithin bound') are.source are.source g are.within are.low
      (λ u h l. refl) are.right
      (λ read a b f. absurd f.quiet);
  held = λ cell here. held_apart bound old front new front' p (IsQuietWithin bound') g are.within are.low are.source
      are.source (λ u h l. refl)
      cell (memory cell) (λ d f. quiet_apart d cell f.quiet) (elim (given cell here) [
        | inl before ↦ are.held cell before
        | inr fresh ↦ held_new old front are.source cell (memory cell) fresh
      ]);
}

-- one deed more
pub grown : (bound p : ℕ) (old new : Deeds) (front : Fronts) (deed : Deed) → new p ≡ old p ++ deed ∷ []
    → ((u : ℕ) → u ≢ p → new u ≡ old u)
    → Extends bound old front new front p (λ d. d ≡ deed)
grown bound p old new front deed own others = record {
  kept = λ u i d h. elim (cases_eq u p) [
    | inl e ↦ subst (λ (l : List Deed). slice_get l i ≡ Some d) (sym (own_at u e))
        (place_kept (old u) (deed ∷ []) i d h)
    | inr n ↦ subst (λ (l : List Deed). slice_get l i ≡ Some d) (sym (others u n)) h
  ];
  found = λ u i d h. elim (cases_eq u p) [
    | inl e ↦ elim (place_found (old u) deed d i (subst (λ (l : List Deed). slice_get l i ≡ Some d) (own_at u e) h)) [
      | inl a ↦ inl a
      | inr b ↦ inr (e, b.0 ∙ ap (λ (v : ℕ). length (old v)) e, b.1)
    ]
    | inr n ↦ inl (subst (λ (l : List Deed). slice_get l i ≡ Some d) (others u n) h)
  ];
  same = λ u q l. refl;
  longer = λ u. elim (cases_eq u p) [
    | inl e ↦
        let one = length_new in
        let a = ap (λ (v : ℕ). length (old v)) e in
        let b = ap (λ (v : ℕ). length (new v)) e in omega arith
    | inr n ↦ let a = ap length (others u n) in omega arith
  ];
  length_others = λ u n. ap length (others u n);
  length_own = let one = length_new in omega arith;
}
  where
    own_at : (u : ℕ) → u ≡ p → new u ≡ old u ++ deed ∷ []
    own_at u e = ap new e ∙ own ∙ ap (λ v. old v ++ deed ∷ []) (sym e)

    length_new : length (new p) ≡ length (old p) + 1
    length_new = ap length own ∙ length-append (old p) (deed ∷ [])

-- the store that was sighted is there
pub record IsThere (done : Deeds) (w j : ℕ) (cell : CellUse) : Type 0 where
  pub value : ℕ
  pub point : ℕ
  pub at : HasStored done w j cell value point

pub sight_there : (done : Deeds) (front : Fronts) (source : Source)
    → ((read : Reading) → HasRead done read → IsRightRead done (known_by front) source read)
    → (p h : ℕ) (d : Deed) (cell : CellUse) (w j : ℕ) → slice_get (done p) h ≡ Some d → Sights source p h d cell w j
    → IsThere done w j cell
sight_there done front source right p h (Enters number) cell w j at s = absurd s
sight_there done front source right p h (Stores own value point) cell w j at s = record {
  value = value;
  point = point;
  at = subst (λ (c : CellUse). HasStored done w j c value point) s.0
      (subst (λ (u : ℕ). HasStored done u j own value point) (sym s.1)
      (subst (λ (i : ℕ). HasStored done p i own value point) (sym s.2) at));
}
sight_there done front source right p h (Loads own value writer stamp point) cell w j at s = record {
  value = value;
  point = stamp;
  at = subst (λ (c : CellUse). HasStored done w j c value stamp) s.0
      (subst (λ (u : ℕ). HasStored done u j own value stamp) (sym s.2)
      (subst (λ (i : ℕ). HasStored done writer i own value stamp) (sym s.3) stood));
}
  where
    read : Reading
    read = record {
      process = p;
      place = h;
      cell = own;
      value = value;
      writer = writer;
      stamp = stamp;
      point = point;
    }

    stood : HasStored done writer (source p h) own value stamp
    stood = ((right read at).such s.1).stored
sight_there done front source right p h (Refers point) cell w j at s = absurd s
sight_there done front source right p h (Misses segno by) cell w j at s = absurd s

pub store_no_load : (cell : CellUse) (value writer stamp q : ℕ) (c : CellUse) (v s : ℕ)
    → Stores c v s ≡ Loads cell value writer stamp q → ⊥
store_no_load cell value writer stamp q c v s h = cc

same_point : (c : CellUse) (v s : ℕ) (c' : CellUse) (v' s' : ℕ) → Stores c v s ≡ Stores c' v' s' → s ≡ s'
same_point c v s c' v' s' h = cc

module _ (count bound p : ℕ) (cell : CellUse) (value q : ℕ) (old new : Deeds) (front : Fronts)
    (present present' : CellUse → Bool) (memory memory' : CellUse → Held) (some : 1 ≤ p) (counted : p < count)
    (under : q ≤ bound)
    (own : new p ≡ old p ++ Stores cell value q ∷ []) (others : (u : ℕ) → u ≢ p → new u ≡ old u)
    (here : memory' cell ≡ record { value = value; writer = p; stamp = q })
    (there : (c : CellUse) → c ≢ cell → IsTrue (present' c) → IsTrue (present c) × (memory' c ≡ memory c))
    (are : AreRight count bound old front present memory) where
  g : Extends bound old front new front p (λ d. d ≡ Stores cell value q)
  g = grown bound p old new front (Stores cell value q) own others

  stored_last : HasStored new p (length (old p)) cell value q
  stored_last = subst (λ (l : List Deed). slice_get l (length (old p)) ≡ Some (Stores cell value q)) (sym own)
      (place_last (old p) (Stores cell value q))

  held_stored : IsHeld new front are.source cell (record { value = value; writer = p; stamp = q })
  held_stored = record {
    zero_value = λ e. absurd (omega arith);
    zero_stamp = λ e. absurd (omega arith);
    unwritten = λ e u place v point h. absurd (omega arith);
    place = length (old p);
    stored = λ n. stored_last;
    last = λ n later v point h.
        let l = slice_get_within (new p) later (Stores cell v point) h in
        let one = g.length_own in omega arith;
    unseen = λ n u at v point h known. elim (g.found u at (Stores cell v point) h) [
      | inl a ↦ let most = are.low p point (are.within u at (Stores cell v point) a) in absurd (omega arith)
      | inr b ↦
          let most = are.low p q under in
          let e = ap (front p) (same_point cell v point cell value q b.2) in absurd (omega arith)
    ];
    onward = λ n u none h j s. elim (cases_eq u p) [
      | inl e ↦ absurd (mine (subst (λ (v : ℕ). (j : ℕ) → IsLatest new are.source v (length (new v)) cell p j → ⊥)
          e none))
      | inr apart ↦ elim (g.found u h s.deed s.at) [
        | inl a ↦
            let t = sight_there old front are.source are.right u h s.deed cell p j a s.sights in
            slice_get_within (old p) j (Stores cell t.value t.point) t.at
        | inr b ↦ absurd (apart b.0)
      ]
    ];
  }
    where
      mine : ((j : ℕ) → IsLatest new are.source p (length (new p)) cell p j → ⊥) → ⊥
      mine none = none (length (old p)) (record {
        earlier = length (old p);
        before = slice_get_within (new p) (length (old p)) (Stores cell value q) stored_last;
        sighted = record { deed = Stores cell value q; at = stored_last; sights = (refl, refl, refl) };
        last = λ later w j a b s. let one = g.length_own in absurd (omega arith);
      })

  stored_right : AreRight count bound new front present' memory'
  stored_right = record {
    within = λ u i d h. elim (g.found u i d h) [
      | inl a ↦ are.within u i d a
      | inr b ↦ subst (IsWithin bound) (sym b.2) under
    ];
    low = λ u r l. let most = are.low u r l in let longer = g.longer u in omega arith;
    idle = idle_still count bound p old new front front (λ d. d ≡ Stores cell value q) counted g are.idle;
    source = are.source;
    right = reads_still bound old new front front p (λ d. d ≡ Stores cell value q) are.source are.source g are.within
        are.low (λ u h l. refl) are.right
        (λ read a b f. absurd (store_no_load read.cell read.value read.writer read.stamp read.point cell value q (sym f)));
    held = λ c here_too. elim (same_cell c cell) [
      | inl e ↦ subst (λ (m : CellUse). IsHeld new front are.source m (memory' m)) (sym e)
          (subst (λ (h : Held). IsHeld new front are.source cell h) (sym here) held_stored)
      | inr n ↦ subst (λ (h : Held). IsHeld new front are.source c h) (sym (there c n here_too).1)
          (held_apart bound old front new front p (λ d. d ≡ Stores cell value q) g are.within are.low are.source
          are.source (λ u h l. refl)
          c (memory c) (λ d f. subst (IsApart c) (sym f) (λ e. n (sym e))) (are.held c (there c n here_too).0))
    ];
  }

pub store_law : StoreLaw
store_law count bound p cell value q old new front present present' memory memory' some counted under own others here
    there are =
    stored_right count bound p cell value q old new front present present' memory memory' some counted under own others
    here there are
