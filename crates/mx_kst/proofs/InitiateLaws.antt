-- What `initiate` leaves is sound, and what it leaves in words of the numbers and names alone.
use Rattle.std.proofs.Common.{ℕ, ◌≡◌, ◌+◌, ◌<◌, ◌≤◌, Bool, true, false, ◌&&◌, not, cond, ◌==◌, ltb, List, ◌++◌, length, take, Option, None, Some, is_some, Result, Ok, refl, ap, sym, subst, ◌∙◌, inl, inr, arith}
use Rattle.std.specs.Option.{is_none, IfSome, option_map}
use Rattle.std.proofs.lemmas.Bool.{ltb-false, eqb-true, true≢false}
use Rattle.std.proofs.lemmas.List.{length-append, length-take, take-append-le, get_or_append_left}
use Rattle.mx_kst.specs.declared.lots.Lot.{Lot}
use Rattle.mx_kst.specs.declared.lots.Lot.TheVariants.{Free, Branch, Linkage}
use Rattle.mx_kst.specs.Sections.{PlainSection, IsWithinPage}
use Rattle.mx_kst.specs.declared.segments.Known.{Known}
use Rattle.mx_kst.specs.declared.segments.KstError.{KstError}
use Rattle.mx_kst.specs.declared.segments.KstError.TheVariants.{NameDup, Full}
use Rattle.mx_name.specs.Answers.{unless}
use Rattle.mx_kst.specs.Lots.{numbers_left, stacks, is_branch, lot_of, number_of}
use Rattle.mx_kst.specs.Names.{RingNames, named}
use Rattle.mx_kst.specs.KnownSegments.{KnownSegments, IsSound}
use Rattle.mx_kst.specs.Initiating.{is_another, is_taken, numbers_needed, is_full, refusal, known_by, known_as, lots_given, lots_with, with_name, Initiated, initiate, IsInitiated}
use Rattle.mx_kst.proofs.LotLaws.{branch_within, stands, nowhere, first_place, where_branch, where_section, given_stands, section_stands}
use Rattle.mx_kst.proofs.NameLaws.{named_with, apart_with, length_with, others_with, own_with}

-- with a further name, each name stands for a segment that is known
more_names : (k : KnownSegments) (lots : List Lot) (ring segno : ℕ) (name : Option (List ℕ)) → IsSound k
    → ((n : ℕ) → is_branch (lot_of k.lots n) ≡ true → is_branch (lot_of lots n) ≡ true) → is_branch (lot_of lots segno) ≡ true
    → (r n : ℕ) (other : List ℕ) → named (with_name k.names ring name segno) r other ≡ Some n → is_branch (lot_of lots n) ≡ true
more_names k lots ring segno name sound stays own r n other e = elim (named_with k.names ring segno r n name other e) [
  | inl stood ↦ stays n (sound.names_known r n other stood)
  | inr got ↦ ap (λ m. is_branch (lot_of lots m)) (sym got) ∙ own
]

eight : (lots : List Lot) → take 8 lots ≡ stacks → 8 ≤ length lots
eight lots e = let long : length (take 8 lots) ≡ 8 = ap length e in omega (arith, length-take 8 lots)

length_given : (segno uid : ℕ) (section : Option PlainSection) → length (lots_given segno uid section) ≡ numbers_needed (is_some section)
length_given segno uid None = refl
length_given segno uid (Some section) = refl

known_sound : (k : KnownSegments) (uid ring own : ℕ) (name : Option (List ℕ)) → IsSound k → number_of k.lots uid ≡ Some own
    → IsSound (record k { names = with_name k.names ring name own })
known_sound k uid ring own name sound e = record {
  stacks_first = sound.stacks_first;
  within = sound.within;
  most = sound.most;
  rings = length_with k.names ring own name ∙ sound.rings;
  one_number = sound.one_number;
  one_entry = λ r. apart_with k.names ring own r name sound.one_entry;
  names_known = more_names k k.lots ring own name sound (λ n b. b) (ap is_branch (stands k.lots uid own e));
  section_next = sound.section_next;
  section_within = sound.section_within;
}

fresh_sound : (k : KnownSegments) (uid ring : ℕ) (name : Option (List ℕ)) (section : Option PlainSection) → IsSound k → number_of k.lots uid ≡ None
    → numbers_needed (is_some section) ≤ numbers_left k.last k.lots → IfSome section (λ s. IsWithinPage s.page s.words)
    → IsSound (record k { lots = k.lots ++ lots_given (length k.lots) uid section; names = with_name k.names ring name (length k.lots) })
fresh_sound k uid ring name section sound e room fits = record {
  stacks_first = take-append-le 8 k.lots given (eight k.lots sound.stacks_first) ∙ sound.stacks_first;
  within = omega (arith, length-append k.lots given, length_given (length k.lots) uid section, sound.within);
  most = sound.most;
  rings = length_with k.names ring (length k.lots) name ∙ sound.rings;
  one_number = λ m n v p q. elim (where_branch k.lots (length k.lots) uid m v section p) [
    | inl old ↦ elim (where_branch k.lots (length k.lots) uid n v section q) [
      | inl older ↦ sound.one_number m n v old older
      | inr new ↦ absurd (nowhere k.lots uid m e (old ∙ ap Branch (sym new.1)))
    ]
    | inr new ↦ elim (where_branch k.lots (length k.lots) uid n v section q) [
      | inl old ↦ absurd (nowhere k.lots uid n e (old ∙ ap Branch (sym new.1)))
      | inr newer ↦ new.0 ∙ sym newer.0
    ]
  ];
  one_entry = λ r. apart_with k.names ring (length k.lots) r name sound.one_entry;
  names_known = more_names k (k.lots ++ given) ring (length k.lots) name sound stays own;
  section_next = λ n of page words brackets p. elim (where_section k.lots (length k.lots) uid n of page words brackets section p) [
    | inl old ↦ (let stood = sound.section_next n of page words brackets old in (stood.0, stays of stood.1))
    | inr new ↦ (omega arith, ap (λ m. is_branch (lot_of (k.lots ++ given) m)) (sym new.1) ∙ own)
  ];
  section_within = λ n of page words brackets p. elim (where_section k.lots (length k.lots) uid n of page words brackets section p) [
    | inl old ↦ sound.section_within n of page words brackets old
    | inr new ↦ new.2 fits
  ];
}
  where
    given : List Lot
    given = lots_given (length k.lots) uid section

    stays : (n : ℕ) → is_branch (lot_of k.lots n) ≡ true → is_branch (lot_of (k.lots ++ lots_given (length k.lots) uid section) n) ≡ true
    stays n branch = ap is_branch (get_or_append_left k.lots (lots_given (length k.lots) uid section) Free n (branch_within k.lots n branch)) ∙ branch

    own : is_branch (lot_of (k.lots ++ lots_given (length k.lots) uid section) (length k.lots)) ≡ true
    own = ap is_branch (given_stands k.lots (length k.lots) uid section)

initiated_sound : (k : KnownSegments) (uid ring : ℕ) (name : Option (List ℕ)) (section : Option PlainSection) → IsSound k → is_full k uid (is_some section) ≡ false
    → ((known_as k.lots uid section).fresh ≡ true → IfSome section (λ s. IsWithinPage s.page s.words))
    → IsSound (record k {
      lots = lots_with k.lots (known_as k.lots uid section) uid section;
      names = with_name k.names ring name (known_as k.lots uid section).segno;
    })
initiated_sound k uid ring name section sound room fits = by_number (number_of k.lots uid) refl room fits
  where
    by_number : (o : Option ℕ) → number_of k.lots uid ≡ o → (is_none o && ltb (numbers_left k.last k.lots) (numbers_needed (is_some section))) ≡ false
        → ((known_by o (length k.lots) section).fresh ≡ true → IfSome section (λ s. IsWithinPage s.page s.words))
        → IsSound (record k {
          lots = lots_with k.lots (known_by o (length k.lots) section) uid section;
          names = with_name k.names ring name (known_by o (length k.lots) section).segno;
        })
    by_number (Some own) e room fits = known_sound k uid ring own name sound e
    by_number None e room fits = fresh_sound k uid ring name section sound e (ltb-false (numbers_left k.last k.lots) (numbers_needed (is_some section)) room) (fits refl)

-- a segment that is not refused has numbers
pub not_full : (k : KnownSegments) (uid ring : ℕ) (name : Option (List ℕ)) (wanted : Bool) → refusal k uid ring name wanted ≡ None
    → is_full k uid wanted ≡ false
not_full k uid ring name wanted e = by_test (is_taken k uid ring name) (is_full k uid wanted) e
  where
    by_test : (a b : Bool) → cond a (Some NameDup) (cond b (Some Full) None) ≡ None → b ≡ false
    by_test true b e = absurd (cc)
    by_test false true e = absurd (cc)
    by_test false false e = refl

-- the same of lots and names that are those
pub sound_after : (k : KnownSegments) (uid ring : ℕ) (name : Option (List ℕ)) (section : Option PlainSection) (lots : List Lot) (names : List RingNames)
    → IsSound k → is_full k uid (is_some section) ≡ false
    → ((known_as k.lots uid section).fresh ≡ true → IfSome section (λ s. IsWithinPage s.page s.words)) → lots ≡ lots_with k.lots (known_as k.lots uid section) uid section
    → names ≡ with_name k.names ring name (known_as k.lots uid section).segno → IsSound (record k { lots = lots; names = names })
sound_after k uid ring name section lots names sound room fits p q =
    subst (λ (xs : List Lot). IsSound (record k { lots = xs; names = names })) (sym p)
    (subst (λ (xs : List RingNames). IsSound (record k { lots = lots_with k.lots (known_as k.lots uid section) uid section; names = xs })) (sym q)
    (initiated_sound k uid ring name section sound room fits))

-- a name that is not taken stands for the number that the segment has
not_another : (k : KnownSegments) (uid ring own n : ℕ) (name : List ℕ) (o : Option ℕ) → is_another o (named k.names ring name) ≡ false → o ≡ Some own
    → named k.names ring name ≡ Some n → n ≡ own
not_another k uid ring own n name None free e found = absurd (cc)
not_another k uid ring own n name (Some other) free e found = by_test (n == other) refl
  where
    same : other ≡ own
    same = cc

    test : not (n == other) ≡ false
    test = ap (is_another (Some other)) (sym found) ∙ free

    by_test : (b : Bool) → (n == other) ≡ b → n ≡ own
    by_test true t = eqb-true n other t ∙ same
    by_test false t = absurd (true≢false (sym (ap not t) ∙ test))

name_known : (k : KnownSegments) (uid ring own : ℕ) (name : Option (List ℕ)) → ring < length k.names → number_of k.lots uid ≡ Some own
    → is_taken k uid ring name ≡ false → IfSome name (λ text. named (with_name k.names ring name own) ring text ≡ Some own)
name_known k uid ring own None within e free = tt
name_known k uid ring own (Some text) within e free =
    own_with k.names ring own text within (λ n found. not_another k uid ring own n text (number_of k.lots uid) free e found)

name_fresh : (k : KnownSegments) (uid ring segno : ℕ) (name : Option (List ℕ)) → ring < length k.names → number_of k.lots uid ≡ None
    → is_taken k uid ring name ≡ false → IfSome name (λ text. named (with_name k.names ring name segno) ring text ≡ Some segno)
name_fresh k uid ring segno None within e free = tt
name_fresh k uid ring segno (Some text) within e free = own_with k.names ring segno text within none
  where
    none : (n : ℕ) → named k.names ring text ≡ Some n → n ≡ segno
    none n found =
        let taken : is_taken k uid ring (Some text) ≡ true = ap (λ o. is_another o (named k.names ring text)) e ∙ ap (is_another None) found in
        absurd (true≢false (sym taken ∙ free))

initiated_known : (k : KnownSegments) (uid ring own : ℕ) (name : Option (List ℕ)) (section : Option PlainSection) → ring < length k.names
    → number_of k.lots uid ≡ Some own → is_taken k uid ring name ≡ false
    → IsInitiated k uid ring name section (record { segno = own; fresh = false; linkage = None }) (record k { names = with_name k.names ring name own })
initiated_known k uid ring own name section within e free = record {
  number = e;
  lot = stands k.lots uid own e;
  old = λ _. e;
  fresh = λ t. absurd (cc);
  made = refl;
  linkage = λ n t. absurd (cc);
  given = omega arith;
  lots = λ n below. refl;
  last = refl;
  own_name = name_known k uid ring own name within e free;
  other_names = λ r other apart. others_with k.names ring own r name other apart;
}

initiated_fresh : (k : KnownSegments) (uid ring : ℕ) (name : Option (List ℕ)) (section : Option PlainSection) → ring < length k.names
    → number_of k.lots uid ≡ None → is_taken k uid ring name ≡ false
    → IsInitiated k uid ring name section (record { segno = length k.lots; fresh = true; linkage = option_map (λ _. length k.lots + 1) section })
    (record k { lots = k.lots ++ lots_given (length k.lots) uid section; names = with_name k.names ring name (length k.lots) })
initiated_fresh k uid ring name section within e free = record {
  number = first_place (k.lots ++ lots_given (length k.lots) uid section) uid (length k.lots) (given_stands k.lots (length k.lots) uid section) only;
  lot = given_stands k.lots (length k.lots) uid section;
  old = λ t. absurd (cc);
  fresh = λ _. refl;
  made = made section;
  linkage = linkage section;
  given = length-append k.lots (lots_given (length k.lots) uid section) ∙ ap (λ n. length k.lots + n) (length_given (length k.lots) uid section);
  lots = λ n below. get_or_append_left k.lots (lots_given (length k.lots) uid section) Free n below;
  last = refl;
  own_name = name_fresh k uid ring (length k.lots) name within e free;
  other_names = λ r other apart. others_with k.names ring (length k.lots) r name other apart;
}
  where
    only : (m : ℕ) → lot_of (k.lots ++ lots_given (length k.lots) uid section) m ≡ Branch uid → m ≡ length k.lots
    only m p = elim (where_branch k.lots (length k.lots) uid m uid section p) [ inl old ↦ absurd (nowhere k.lots uid m e old) | inr new ↦ new.0 ]

    linkage : (section : Option PlainSection) (n : ℕ) → option_map (λ _. length k.lots + 1) section ≡ Some n
        → (n ≡ length k.lots + 1) × IfSome section (λ s. lot_of (k.lots ++ lots_given (length k.lots) uid section) n ≡ Linkage (length k.lots) s.page s.brackets s.words)
    linkage None n t = absurd (cc)
    linkage (Some s) n t = let next : n ≡ length k.lots + 1 = cc in (next, section_stands k.lots (length k.lots) uid n s next)

    made : (section : Option PlainSection) → is_some (option_map (λ _. length k.lots + 1) section) ≡ is_some section
    made None = refl
    made (Some s) = refl

module _ (k : KnownSegments) (uid ring : ℕ) (name : Option (List ℕ)) (section : Option PlainSection) where
  abbrev left : Initiated
  left = record {
    known = known_as k.lots uid section;
    after = record k {
      lots = lots_with k.lots (known_as k.lots uid section) uid section;
      names = with_name k.names ring name (known_as k.lots uid section).segno;
    };
  }

  in_words : ring < length k.names → is_taken k uid ring name ≡ false → IsInitiated k uid ring name section left.known left.after
  in_words within free = by_number (number_of k.lots uid) refl
    where
      by_number : (o : Option ℕ) → number_of k.lots uid ≡ o
          → IsInitiated k uid ring name section (known_by o (length k.lots) section) (record k {
            lots = lots_with k.lots (known_by o (length k.lots) section) uid section;
            names = with_name k.names ring name (known_by o (length k.lots) section).segno;
          })
      by_number (Some own) e = initiated_known k uid ring own name section within e free
      by_number None e = initiated_fresh k uid ring name section within e free

  -- a segment that is initiated was refused by neither test
  granted : (r : Initiated) → initiate k uid ring name section ≡ Ok r → (is_taken k uid ring name ≡ false) × (is_full k uid (is_some section) ≡ false) × (left ≡ r)
  granted r e = by_taken (is_taken k uid ring name) (is_full k uid (is_some section)) refl refl e
    where
      by_taken : (a b : Bool) → is_taken k uid ring name ≡ a → is_full k uid (is_some section) ≡ b
          → ◌≡◌ {A = Result Initiated KstError} (unless (cond a (Some NameDup) (cond b (Some Full) None)) left) (Ok r)
          → (is_taken k uid ring name ≡ false) × (is_full k uid (is_some section) ≡ false) × (left ≡ r)
      by_taken true b t u e = absurd (cc)
      by_taken false true t u e = absurd (cc)
      by_taken false false t u e = (t, u, cc)

  pub initiated : (known : Known) (after : KnownSegments) → ring < length k.names
      → initiate k uid ring name section ≡ Ok (record { known = known; after = after }) → IsInitiated k uid ring name section known after
  initiated known after within e =
      let r : Initiated = record { known = known; after = after } in
      let given = granted r e in
      subst (λ (x : Initiated). IsInitiated k uid ring name section x.known x.after) given.2 (in_words within given.0)

  pub sound_initiated : (known : Known) (after : KnownSegments) → IsSound k → IfSome section (λ s. IsWithinPage s.page s.words)
      → initiate k uid ring name section ≡ Ok (record { known = known; after = after }) → IsSound after
  sound_initiated known after sound fits e =
      let r : Initiated = record { known = known; after = after } in
      let given = granted r e in
      subst (λ (x : Initiated). IsSound x.after) given.2 (initiated_sound k uid ring name section sound given.1 (λ _. fits))

  -- what is known after a segment that neither test refuses, of lots and names that are those
  pub initiate_is : (known : Known) (lots : List Lot) (names : List RingNames) → refusal k uid ring name (is_some section) ≡ None
      → known ≡ known_as k.lots uid section → lots ≡ lots_with k.lots (known_as k.lots uid section) uid section
      → names ≡ with_name k.names ring name (known_as k.lots uid section).segno
      → initiate k uid ring name section ≡ Ok (record { known = known; after = record k { lots = lots; names = names } })
  initiate_is known lots names granted p q r =
      subst (λ (x : Known). initiate k uid ring name section ≡ Ok (record { known = x; after = record k { lots = lots; names = names } })) (sym p)
      (subst (λ (xs : List Lot). initiate k uid ring name section ≡ Ok (record { known = left.known; after = record k { lots = xs; names = names } })) (sym q)
      (subst (λ (xs : List RingNames). initiate k uid ring name section ≡ Ok (record { known = left.known; after = record k { lots = left.after.lots; names = xs } })) (sym r)
      (ap (λ (o : Option KstError). unless o left) granted)))
