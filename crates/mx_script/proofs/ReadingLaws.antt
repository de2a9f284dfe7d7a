-- Laws of reading a text line by line.
use Rattle.std.proofs.Common.{◌≡◌, ℕ, ◌+◌, ◌<◌, ◌≤◌, Bool, true, false, cond, List, [], ◌∷◌, ◌++◌, length, map, Option, Some, None, refl, ap, sym, ◌∙◌, subst, append_assoc, append-nil, length-append, arith}
use Rattle.std.proofs.lemmas.List.{map-append, length-map}
use Rattle.std.proofs.lemmas.List.Folds.{list_all-append}
use Rattle.std.proofs.lemmas.List.Sums.{sum_by-cons}
use Rattle.std.specs.List.{list_all, sum_by}
use Rattle.mx_name.specs.Names.{is_free}
use Rattle.mx_request.specs.declared.entrants.Entrant.{Entrant}
use Rattle.mx_name.proofs.CutLaws.{cut_takes, cut_again}
use Rattle.mx_request.proofs.LineLaws.{same_cut}
use Rattle.mx_request.proofs.StepLaws.{both, both_hold, some_is}
use Rattle.mx_name.specs.Cuts.{cut_at}
use Rattle.mx_script.proofs.DraftLaws.{none_is_some, parts_of_session, run_session, run_on, step_adds, goes_on}
use Rattle.mx_script.proofs.RowLaws.{row_free}
use Rattle.mx_script.specs.Drafts.{Draft, Empty, Ended, step, Goes, finished, IsCountable}
use Rattle.mx_script.specs.FirstBadLine.{BeginsText, IsFirstBad}
use Rattle.mx_script.specs.Progress.{rows_so_far, texts_so_far, run, AreAlone, HasRead}
use Rattle.mx_script.specs.Reading.{IsRow}
use Rattle.mx_script.specs.Sessions.{Outline, is_session, history_lines, line_count}
use Rattle.mx_script.specs.SessionTexts.{asked, history_rows, setup_rows, process_rows, rows_of, row_text, fits, lines_text, IsText}
use Rattle.mx_script.specs.declared.lines.Line.{Line}
use Rattle.mx_script.specs.declared.rows.Row.{Row}
use Rattle.mx_script.specs.declared.rows.Row.TheVariants as row

-- lines, each with its newline
pub lines_text-append : (xs ys : List (List ℕ)) → lines_text (xs ++ ys) ≡ lines_text xs ++ lines_text ys
lines_text-append [] ys = refl
lines_text-append (x ∷ xs) ys = rw (lines_text-append xs ys, append_assoc) refl

fewer_lines : (xs : List (List ℕ)) → length xs ≤ length (lines_text xs)
fewer_lines [] = omega arith
fewer_lines (x ∷ xs) = omega (arith, fewer_lines xs, length-append x (10 ∷ lines_text xs))

pub rows_free : (rows : List Row) → list_all fits rows ≡ true → list_all (is_free 10) (map row_text rows) ≡ true
rows_free [] e = refl
rows_free (r ∷ rows) e = let f = both (fits r) (list_all fits rows) e in both_hold _ _ (row_free r f.0) (rows_free rows f.1)

not_empty : (x t rest : List ℕ) → (x ++ 10 ∷ t) ++ rest ≡ [] → ⊥
not_empty [] t rest e = cc
not_empty (c ∷ x) t rest e = cc

-- a text of whole lines that begins with others has those lines first
pub lines_front : (xs ys : List (List ℕ)) (rest : List ℕ) → list_all (is_free 10) xs ≡ true → list_all (is_free 10) ys ≡ true
    → lines_text xs ≡ lines_text ys ++ rest → (more : List (List ℕ)) × (xs ≡ ys ++ more) × (lines_text more ≡ rest)
lines_front xs [] rest a b e = (xs, refl, e)
lines_front [] (y ∷ ys) rest a b e = absurd (not_empty y (lines_text ys) rest (sym e))
lines_front (x ∷ xs) (y ∷ ys) rest a b e =
    let f = both (is_free 10 x) (list_all (is_free 10) xs) a in
    let g = both (is_free 10 y) (list_all (is_free 10) ys) b in
    let same = same_cut 10 x y (lines_text xs) (lines_text ys ++ rest) f.0 g.0 (e ∙ append_assoc y (10 ∷ lines_text ys) rest) in
    let on = lines_front xs ys rest f.1 g.1 same.1 in
    (on.0, joined x y xs (ys ++ on.0) same.0 on.1, on.2)
  where
    joined : (x y : List ℕ) (xs ys : List (List ℕ)) → x ≡ y → xs ≡ ys → x ∷ xs ≡ y ∷ ys
    joined x y xs ys e f = cc

-- rows whose texts are cut in two
record IsSplit (rows : List Row) (front back : List (List ℕ)) : Type 0 where
  pub first : List Row
  pub second : List Row
  pub same : rows ≡ first ++ second
  pub fronts : map row_text first ≡ front
  pub backs : map row_text second ≡ back

pub parts_of : (x y : List ℕ) (xs ys : List (List ℕ)) → x ∷ xs ≡ y ∷ ys → (x ≡ y) × (xs ≡ ys)
parts_of x y xs ys e = (cc, cc)

split : (rows : List Row) (front back : List (List ℕ)) → map row_text rows ≡ front ++ back → IsSplit rows front back
split rows [] back e = record { first = []; second = rows; same = refl; fronts = refl; backs = e }
split [] (t ∷ front) back e = absurd (cc)
split (r ∷ rows) (t ∷ front) back e =
    let f = parts_of (row_text r) t (map row_text rows) (front ++ back) e in
    let on = split rows front back f.1 in
    record {
      first = r ∷ on.first;
      second = on.second;
      same = ap (λ rows. r ∷ rows) on.same;
      fronts = joined (row_text r) t (map row_text on.first) front f.0 on.fronts;
      backs = on.backs;
    }
  where
    joined : (x y : List ℕ) (xs ys : List (List ℕ)) → x ≡ y → xs ≡ ys → x ∷ xs ≡ y ∷ ys
    joined x y xs ys e f = cc

-- rows that begin with those of a draft, by their texts
pub record Continues (draft : Draft) (rows : List Row) (back : List (List ℕ)) : Type 0 where
  pub more : List Row
  pub same : rows ≡ rows_so_far draft ++ more
  pub backs : map row_text more ≡ back
  pub fit : list_all fits more ≡ true

continues : (draft : Draft) (rows : List Row) (back : List (List ℕ)) → AreAlone (rows_so_far draft) (texts_so_far draft)
    → list_all fits rows ≡ true → map row_text rows ≡ texts_so_far draft ++ back → Continues draft rows back
continues draft rows back alone fit e =
    let s = split rows (texts_so_far draft) back e in
    let f = both (list_all fits s.first) (list_all fits s.second) (sym (list_all-append fits s.first s.second) ∙ sym (ap (list_all fits) s.same) ∙ fit) in
    record {
      more = s.second;
      same = s.same ∙ ap (λ first. first ++ s.second) (alone s.first f.0 s.fronts);
      backs = s.backs;
      fit = f.1;
    }

-- the rows of a session lead to it
pub record IsWhole (x : Outline) : Type 0 where
  pub last : Draft
  pub runs : run (rows_of x) Empty ≡ Some last
  pub done : finished last [] ≡ Some x

pub whole_of : (x : Outline) → is_session x ≡ true → IsWhole x
whole_of x e = record { last = Ended x; runs = run_session x e; done = rw e refl }

-- at the start
pub nothing_read : (bytes : List ℕ) → HasRead bytes bytes 1 Empty
nothing_read bytes = record { parts = refl; next = refl; fit = refl; alone = λ others f e. no_texts others e; runs = refl; sound = tt }
  where
    no_texts : (rows : List Row) → map row_text rows ≡ [] → rows ≡ []
    no_texts [] e = refl
    no_texts (r ∷ rows) e = absurd (cc)

-- one more line
one_row : (rows : List Row) (text : List ℕ) → list_all fits rows ≡ true → map row_text rows ≡ text ∷ []
    → (r : Row) × (rows ≡ r ∷ []) × IsRow text r
one_row [] text f e = absurd (cc)
one_row (r ∷ []) text f e =
    (r, refl, record { spelled = (parts_of (row_text r) text [] [] e).0; fits = (both (fits r) true f).0 })
one_row (r ∷ s ∷ rows) text f e = absurd (cc)

alone_on : (draft next : Draft) (text : List ℕ) → AreAlone (rows_so_far draft) (texts_so_far draft) → (g : Goes draft text next)
    → rows_so_far next ≡ rows_so_far draft ++ g.told ∷ [] → texts_so_far next ≡ texts_so_far draft ++ text ∷ []
    → AreAlone (rows_so_far next) (texts_so_far next)
alone_on draft next text alone g rows texts = λ others fit e.
    let c = continues draft others (text ∷ []) alone fit (e ∙ texts) in
    let one = one_row c.more text c.fit c.backs in
    c.same ∙ ap (λ more. rows_so_far draft ++ more) (one.1 ∙ ap (λ (r : Row). r ∷ []) (g.alone one.0 one.2)) ∙ sym rows

pub read_on : (spelled rest : List ℕ) (number : ℕ) (draft next : Draft) (p : List ℕ × List ℕ) → HasRead spelled rest number draft
    → cut_at 10 rest ≡ Some p → Goes draft p.0 next → HasRead spelled p.1 (number + 1) next
read_on spelled rest number draft next p h c g =
    let adds = step_adds draft g.told next h.sound g.is.fits g.steps in
    let texts : texts_so_far next ≡ texts_so_far draft ++ p.0 ∷ []
    = ap (map row_text) adds.rows ∙ map-append row_text (rows_so_far draft) (g.told ∷ [])
    ∙ ap (λ t. texts_so_far draft ++ t ∷ []) g.is.spelled in
    record {
      parts = parts (texts_so_far draft) (texts_so_far next) p.0 p.1 rest spelled h.parts (cut_takes 10 rest p c).0 texts;
      next = count (texts_so_far draft) (texts_so_far next) p.0 number h.next texts;
      fit = ap (list_all fits) adds.rows ∙ list_all-append fits (rows_so_far draft) (g.told ∷ []) ∙ both_hold _ _ h.fit (both_hold _ _ g.is.fits refl);
      alone = alone_on draft next p.0 h.alone g adds.rows texts;
      runs = ap (λ rows. run rows Empty) adds.rows ∙ run_on (rows_so_far draft) (g.told ∷ []) Empty draft h.runs ∙ rw g.steps refl;
      sound = adds.sound;
    }
  where
    parts : (xs ys : List (List ℕ)) (line after rest spelled : List ℕ) → spelled ≡ lines_text xs ++ rest → rest ≡ line ++ 10 ∷ after
        → ys ≡ xs ++ line ∷ [] → spelled ≡ lines_text ys ++ after
    parts xs ys line after rest spelled e f g = rw (e, f, g, lines_text-append, append_assoc, append_assoc) refl

    count : (xs ys : List (List ℕ)) (line : List ℕ) (n : ℕ) → n ≡ length xs + 1 → ys ≡ xs ++ line ∷ [] → n + 1 ≡ length ys + 1
    count xs ys line n e g = omega (arith, e, ap length g, length-append xs (line ∷ []))

-- the number of the next line is small
pub counted : (spelled rest : List ℕ) (number : ℕ) (draft : Draft) (p : List ℕ × List ℕ) → HasRead spelled rest number draft
    → cut_at 10 rest ≡ Some p → number ≤ length spelled
counted spelled rest number draft p h c =
    let parts = (cut_takes 10 rest p c).0 in
    omega (
      arith,
      h.next,
      ap length h.parts,
      length-append (lines_text (texts_so_far draft)) rest,
      fewer_lines (texts_so_far draft),
      ap length parts,
      length-append p.0 (10 ∷ p.1),
    )

processes_length : (principals : List Entrant) (scripts : List (List Line)) → length scripts ≡ length principals
    → length (process_rows principals scripts) ≡ length principals + sum_by length scripts
processes_length [] [] same = refl
processes_length [] (s ∷ scripts) same = absurd (omega (arith, same))
processes_length (p ∷ principals) [] same = absurd (omega (arith, same))
processes_length (p ∷ principals) (s ∷ scripts) same =
    let more : sum_by length (s ∷ scripts) ≡ length s + sum_by length scripts = sum_by-cons length s scripts in
    omega (
      arith,
      more,
      length-append (row.Process p ∷ map row.Line s) (process_rows principals scripts),
      length-map s row.Line,
      processes_length principals scripts (omega (arith, same)),
    )

history_length : (history : Option ℕ) → length (history_rows history) ≡ history_lines history
history_length None = refl
history_length (Some limit) = refl

ended_length : (x : Outline) → is_session x ≡ true → length (texts_so_far (Ended x)) ≡ line_count x
ended_length x e =
    omega (
      arith,
      length-map (rows_so_far (Ended x)) row_text,
      length-append (setup_rows x.version x.history x.setup ++ process_rows x.principals x.scripts) (row.End ∷ []),
      length-append (setup_rows x.version x.history x.setup) (process_rows x.principals x.scripts),
      length-append (row.Header x.version ∷ history_rows x.history) (map asked x.setup),
      length-map x.setup asked,
      history_length x.history,
      processes_length x.principals x.scripts (parts_of_session x e).same,
    )

pub countable : (spelled rest : List ℕ) (number : ℕ) (draft : Draft) → HasRead spelled rest number draft
    → length spelled < 4294967295 → IsCountable draft
countable spelled rest number (Ended x) h small =
    omega (
      arith,
      ended_length x h.sound,
      ap length h.parts,
      length-append (lines_text (texts_so_far (Ended x))) rest,
      fewer_lines (texts_so_far (Ended x)),
    )
countable spelled rest number _ h small = tt

-- what was read stands in each session that the text could be
record Leads (draft : Draft) (rest : List ℕ) (x : Outline) : Type 0 where
  pub more : List Row
  pub same : rows_of x ≡ rows_so_far draft ++ more
  pub left : lines_text (map row_text more) ≡ rest
  pub fit : list_all fits more ≡ true

leads : (spelled rest : List ℕ) (number : ℕ) (draft : Draft) (x : Outline) → HasRead spelled rest number draft → IsText spelled x
    → Leads draft rest x
leads spelled rest number draft x h t =
    let m = lines_front (map row_text (rows_of x)) (texts_so_far draft) rest (rows_free (rows_of x) t.fits_all)
    (rows_free (rows_so_far draft) h.fit) (sym t.text ∙ h.parts) in
    let c = continues draft (rows_of x) m.0 h.alone t.fits_all m.1 in
    record { more = c.more; same = c.same; left = ap lines_text c.backs ∙ m.2; fit = c.fit }

-- no row at which a draft stops leads on
stops : (draft last : Draft) (rows more : List Row) (r : Row) → run rows Empty ≡ Some draft → step draft r ≡ None
    → run (rows ++ r ∷ more) Empty ≡ Some last → ⊥
stops draft last rows more r e s f = none_is_some last (sym (run_on rows (r ∷ more) Empty draft e ∙ rw s refl) ∙ f)

abbrev IsStop : Draft → List ℕ → Type 0
IsStop draft text = (r : Row) → IsRow text r → step draft r ≡ None

never : (draft : Draft) (text : List ℕ) → AreAlone (rows_so_far draft) (texts_so_far draft) → run (rows_so_far draft) Empty ≡ Some draft
    → IsStop draft text → BeginsText (texts_so_far draft ++ text ∷ []) → ⊥
never draft text alone e s b =
    let c = continues draft (rows_of b.session) (text ∷ b.more) alone b.fits_all (b.begins ∙ append_assoc (texts_so_far draft) (text ∷ []) b.more) in
    let w = whole_of b.session b.is_one in
    first c.more w.last c.fit c.backs (sym (ap (λ rows. run rows Empty) c.same) ∙ w.runs)
  where
    first : (more : List Row) (last : Draft) → list_all fits more ≡ true → map row_text more ≡ text ∷ b.more
        → run (rows_so_far draft ++ more) Empty ≡ Some last → ⊥
    first [] last f g h = absurd (cc)
    first (r ∷ more) last f g h =
        let is : IsRow text r = record {
          spelled = (parts_of (row_text r) text (map row_text more) b.more g).0;
          fits = (both (fits r) (list_all fits more) f).0;
        } in
        stops draft last (rows_so_far draft) more r e (s r is) h

-- a whole line that cannot stand there
next_line : (rest : List ℕ) (p : List ℕ × List ℕ) (text more : List ℕ) → cut_at 10 rest ≡ Some p → is_free 10 text ≡ true
    → rest ≡ text ++ 10 ∷ more → p.0 ≡ text
next_line rest p text more c f e =
    let parts = cut_takes 10 rest p c in (same_cut 10 p.0 text p.1 more parts.1 f (sym parts.0 ∙ e)).0

no_more : (draft last : Draft) (rows more : List Row) (rest : List ℕ) (p : List ℕ × List ℕ) → run rows Empty ≡ Some draft
    → cut_at 10 rest ≡ Some p → IsStop draft p.0 → list_all fits more ≡ true → lines_text (map row_text more) ≡ rest
    → run (rows ++ more) Empty ≡ Some last → ⊥
no_more draft last rows [] rest p e c s f l g = not_empty p.0 p.1 [] (append-nil _ ∙ sym (cut_takes 10 rest p c).0 ∙ sym l)
no_more draft last rows (r ∷ more) rest p e c s f l g =
    let fit = both (fits r) (list_all fits more) f in
    let same = next_line rest p (row_text r) (lines_text (map row_text more)) c (row_free r fit.0) (sym l) in
    stops draft last rows more r e (s r (record { spelled = sym same; fits = fit.0 })) g

pub bad_line : (spelled rest : List ℕ) (number : ℕ) (draft : Draft) (p : List ℕ × List ℕ) → HasRead spelled rest number draft
    → cut_at 10 rest ≡ Some p → IsStop draft p.0 → IsFirstBad spelled number
bad_line spelled rest number draft p h c s =
    record {
      no_session = λ x.
          let l = leads spelled rest number draft x.0 h x.1 in
          let w = whole_of x.0 x.1.session in
          no_more draft w.last (rows_so_far draft) l.more rest p h.runs c s l.fit l.left (sym (ap (λ rows. run rows Empty) l.same) ∙ w.runs);
      lines = texts_so_far draft;
      rest = rest;
      first = record {
        parts = h.parts;
        at = h.next;
        begins = goes_on draft h.sound h.fit;
        bad = λ text more f e. never draft text h.alone h.runs (subst (IsStop draft) (next_line rest p text more c f e) s);
      };
    }

-- the end of the text
at_end : (draft last : Draft) (rows more : List Row) (rest : List ℕ) → run rows Empty ≡ Some draft → cut_at 10 rest ≡ None
    → list_all fits more ≡ true → lines_text (map row_text more) ≡ rest → run (rows ++ more) Empty ≡ Some last
    → (draft ≡ last) × (rest ≡ [])
at_end draft last rows [] rest e c f l g = (some_is _ _ (sym e ∙ sym (ap (λ xs. run xs Empty) (append-nil rows)) ∙ g), sym l)
at_end draft last rows (r ∷ more) rest e c f l g =
    let fit = both (fits r) (list_all fits more) f in
    absurd (none_is_some (row_text r, lines_text (map row_text more)) (sym c ∙ sym (ap (cut_at 10) l)
    ∙ cut_again 10 (row_text r) (lines_text (map row_text more)) (row_free r fit.0)))

pub only_session : (spelled rest : List ℕ) (number : ℕ) (draft : Draft) (x : Outline) → HasRead spelled rest number draft
    → cut_at 10 rest ≡ None → IsText spelled x → finished draft rest ≡ Some x
only_session spelled rest number draft x h c t =
    let l = leads spelled rest number draft x h t in
    let w = whole_of x t.session in
    let ends = at_end draft w.last (rows_so_far draft) l.more rest h.runs c l.fit l.left (sym (ap (λ rows. run rows Empty) l.same) ∙ w.runs) in
    ap (λ d. finished d rest) ends.0 ∙ ap (finished w.last) ends.1 ∙ w.done

pub bad_end : (spelled rest : List ℕ) (number : ℕ) (draft : Draft) → HasRead spelled rest number draft → cut_at 10 rest ≡ None
    → finished draft rest ≡ None → IsFirstBad spelled number
bad_end spelled rest number draft h c s =
    record {
      no_session = λ x. none_is_some x.0 (sym s ∙ only_session spelled rest number draft x.0 h c x.1);
      lines = texts_so_far draft;
      rest = rest;
      first = record {
        parts = h.parts;
        at = h.next;
        begins = goes_on draft h.sound h.fit;
        bad = λ text more f e b. none_is_some (text, more) (sym c ∙ ap (cut_at 10) e ∙ cut_again 10 text more f);
      };
    }

tested : (test : Bool) (a b : Outline) → cond test (Some a) None ≡ Some b → (test ≡ true) × (a ≡ b)
tested true a b e = (refl, cc)
tested false a b e = cc

ended_text : (draft : Draft) (rest spelled : List ℕ) (number : ℕ) (x : Outline) → HasRead spelled rest number draft
    → finished draft rest ≡ Some x → IsText spelled x
ended_text (Ended x) [] spelled number y h e =
    let found = tested (is_session x) x y e in
    subst (IsText spelled) found.1 (record { session = found.0; fits_all = h.fit; text = h.parts ∙ append-nil _ })
ended_text _ rest spelled number x h e = absurd (none_is_some x e)

pub whole_text : (spelled rest : List ℕ) (number : ℕ) (draft : Draft) (x : Outline) → HasRead spelled rest number draft
    → finished draft rest ≡ Some x → IsText spelled x
whole_text spelled rest number draft x h e = ended_text draft rest spelled number x h e
