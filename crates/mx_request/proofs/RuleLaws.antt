-- Laws of search rules in a line: what a rule is read as is spelled so, and a rule that fits is read back.
use Rattle.std.proofs.Common.{◌≡◌, ℕ, zero, suc, ◌+◌, ◌-◌, ◌<◌, ◌≤◌, ◌==◌, nat_le, nat_lt, Bool, true, false, cond, not, ◌&&◌, List, [], ◌∷◌, ◌++◌, map, length, Option, Some, None, codes, refl, ap, sym, subst, append_assoc, ◌∙◌, arith}
use Rattle.std.proofs.lemmas.Bool.{eqb-true, ne_eqb}
use Rattle.std.proofs.lemmas.Bool.Decides.{nat_tests}
use Rattle.std.specs.List.{list_all, slice_split, onto_first}
use Rattle.std.specs.Result.{result_ok}
use Rattle.std.specs.Cmp.Lexicographic.{pointwise, same_text}
use Rattle.mx_name.proofs.CutLaws.{cut_takes, cut_again}
use Rattle.mx_name.proofs.FirstFaults.{or_left, or_right, or_none}
use Rattle.mx_name.proofs.PathLaws.{pathname_names}
use Rattle.mx_name.proofs.Splitting.{some_part}
use Rattle.mx_name.proofs.TextLaws.{all_free, path_pathname, path_again, pathname_again, pathname_takes, pathname_is_free}
use Rattle.mx_name.specs.Answers.{unless}
use Rattle.mx_name.specs.Cuts.{cut_at}
use Rattle.mx_name.specs.Names.{is_free, is_name_byte, name_fault}
use Rattle.mx_name.specs.Pathnames.{is_absolute, climbs, names_of, first_fault, is_pathname_byte, pathname_fault, pathname_of}
use Rattle.mx_name.specs.Paths.{IsPath, path_text, names_text, resolved, resolve_fault, resolution}
use Rattle.mx_name.specs.declared.paths.PathError.{PathError}
use Rattle.mx_name.specs.declared.paths.PathError.TheVariants.{AboveRoot, TooLong}
use Rattle.mx_search.specs.declared.rules.Rule.{Rule}
use Rattle.mx_search.specs.declared.rules.Rule.TheVariants.{InitiatedSegments, ReferencingDir, WorkingDir, Directory}
use Rattle.mx_request.specs.Fields.{line_of, is_name}
use Rattle.mx_request.specs.Reading.{directory_at, rule_at, rules_by, rules_at, rules_after}
use Rattle.mx_request.specs.RequestTexts.{is_path, is_rule, rule_text}
use Rattle.mx_request.specs.Steps.{◌>>=◌, when}
use Rattle.mx_request.proofs.StepLaws.{both, both_hold, fails, no_fault, faultless, some_is, bind_some, when_some}

-- a text without the byte is not cut
pub cut_none : (byte : ℕ) (text : List ℕ) → is_free byte text ≡ true → cut_at byte text ≡ None
unfolding cut_at
cut_none byte [] e = refl
cut_none byte (c ∷ cs) e =
    let f = both (not (c == byte)) (is_free byte cs) e in
    rw (fails (c == byte) f.0, cut_none byte cs f.1) refl

-- names with a mark before each, and the names of an absolute pathname
split_joined : (text : List ℕ) → names_text (slice_split (λ c. c == 62) text) ≡ 62 ∷ text
split_joined [] = refl
split_joined (c ∷ cs) = by_test (c == 62) refl (slice_split (λ c. c == 62) cs) (split_joined cs)
  where
    by_test : (b : Bool) → (c == 62) ≡ b → (rest : List (List ℕ)) → names_text rest ≡ 62 ∷ cs
        → names_text (cond b ([] ∷ rest) (onto_first c rest)) ≡ 62 ∷ c ∷ cs
    by_test true t rest e = let mark : c ≡ 62 = eqb-true c 62 t in rw (mark, e) refl
    by_test false t [] e = cc
    by_test false t (part ∷ parts) e = let tail : part ++ names_text parts ≡ cs = cc in ap (λ xs. 62 ∷ c ∷ xs) tail

some_text : (parts : List (List ℕ)) (part : List ℕ) (rest : List (List ℕ)) → parts ≡ part ∷ rest → path_text parts ≡ names_text parts
some_text parts part rest e = rw e refl

parts_left : (a b : Bool) (parts : List (List ℕ)) → b ≡ false → cond (a && b) [] parts ≡ parts
parts_left true b parts e = rw e refl
parts_left false b parts e = refl

names_split : (d : ℕ) (ds : List ℕ) → names_of (62 ∷ d ∷ ds) ≡ slice_split (λ c. c == 62) (d ∷ ds)
names_split d ds =
    parts_left (not (length (62 ∷ d ∷ ds) == 0)) (length (d ∷ ds) == 0) (slice_split (λ c. c == 62) (d ∷ ds))
    (ne_eqb (length (d ∷ ds)) 0 (λ e. omega arith))

absolute_names : (text : List ℕ) → is_absolute text ≡ true → path_text (names_of text) ≡ text
absolute_names [] e = cc
absolute_names (c ∷ []) e = let mark : c ≡ 62 = eqb-true c 62 e in rw mark refl
absolute_names (c ∷ d ∷ ds) e =
    let mark : c ≡ 62 = eqb-true c 62 e in
    let some = some_part (λ c. c == 62) (d ∷ ds) in
    rw mark (ap path_text (names_split d ds) ∙ some_text (slice_split (λ c. c == 62) (d ∷ ds)) some.0 some.1.0 some.1.1 ∙ split_joined (d ∷ ds))

all_named : (names : List (List ℕ)) → first_fault names ≡ None → list_all is_name names ≡ true
all_named [] e = refl
all_named (name ∷ names) e =
    both_hold (is_name name) (list_all is_name names) (no_fault (name_fault name) (or_left (name_fault name) (first_fault names) e))
    (all_named names (or_right (name_fault name) (first_fault names) e))

none_faulty : (names : List (List ℕ)) → list_all is_name names ≡ true → first_fault names ≡ None
none_faulty [] e = refl
none_faulty (name ∷ names) e =
    let f = both (is_name name) (list_all is_name names) e in
    or_none (name_fault name) (first_fault names) (faultless (name_fault name) f.0) (none_faulty names f.1)

path_is : (path : List (List ℕ)) → is_path path ≡ true → IsPath path
path_is path e =
    let f = both (nat_le (length (path_text path)) 168) (list_all is_name path) e in
    record { within = within (length (path_text path)) f.0; names_fit = none_faulty path f.1 }
  where
    within : (n : ℕ) → nat_le n 168 ≡ true → n ≤ 168
    within n e = grind (arith, nat_tests)

-- what a rule's text is read as
abbrev IsText : List ℕ → Rule → Type 0
IsText text rule = (rule_text rule ≡ text) × (is_rule rule ≡ true)

pub unless_ok : {A E : Type 0} (fault : Option E) (value got : A) → result_ok (unless fault value) ≡ Some got → (fault ≡ None) × (value ≡ got)
unless_ok None value got e = (refl, cc)
unless_ok (Some x) value got e = cc

short_enough : (a b : Bool) → cond a (Some AboveRoot) (cond b (Some TooLong) None) ≡ None → b ≡ false
short_enough true b e = cc
short_enough false true e = cc
short_enough false false e = refl

absolute_resolved : (text : List ℕ) → is_absolute text ≡ true → resolved [] text ≡ names_of text
absolute_resolved text e = rw e refl

directory_takes : (text : List ℕ) (rule : Rule) → directory_at text ≡ Some rule → IsText text rule
directory_takes text rule e =
    let t = bind_some (when (is_absolute text) text) _ rule e in
    let absolute = when_some (is_absolute text) text t.0 t.1 in
    let p = bind_some (pathname_of t.0) _ rule t.2 in
    let pathname = pathname_takes t.0 p.0 p.1 in
    let r = bind_some (result_ok (resolution [] p.0)) _ rule p.2 in
    let same : p.0 ≡ text = pathname.0 ∙ sym absolute.1 in
    let fault : pathname_fault text ≡ None = subst (λ x. pathname_fault x ≡ None) same pathname.1 in
    let own : result_ok (resolution [] text) ≡ Some r.0 = subst (λ x. result_ok (resolution [] x) ≡ Some r.0) same r.1 in
    let given = unless_ok (resolve_fault [] text) (resolved [] text) r.0 own in
    let short = short_enough (nat_lt 0 (climbs text)) (nat_lt 168 (length (path_text (resolved [] text)))) given.0 in
    let path : names_of text ≡ r.0 = sym (absolute_resolved text absolute.0) ∙ given.1 in
    subst (IsText text) (some_is _ _ r.2) (
      ap path_text (sym path) ∙ absolute_names text absolute.0,
      both_hold _ _ (within (length (path_text r.0)) (subst (λ x. nat_lt 168 (length (path_text x)) ≡ false) given.1 short))
          (subst (λ x. list_all is_name x ≡ true) path (all_named (names_of text) (pathname_names text fault))),
    )
  where
    within : (n : ℕ) → nat_lt 168 n ≡ false → nat_le n 168 ≡ true
    within n e = grind (arith, nat_tests)

word_takes : (text word : List ℕ) (rule : Rule) → rule_text rule ≡ word → is_rule rule ≡ true → pointwise ◌==◌ text word ≡ true → IsText text rule
word_takes text word rule e fits t = (e ∙ sym (same_text text word (sym t)), fits)

pub rule_takes : (text : List ℕ) (rule : Rule) → rule_at text ≡ Some rule → IsText text rule
rule_takes text rule e = by_first (pointwise ◌==◌ text (codes "initiated_segments")) refl e
  where
    by_third : (b : Bool) → pointwise ◌==◌ text (codes "working_dir") ≡ b → cond b (Some WorkingDir) (directory_at text) ≡ Some rule
        → IsText text rule
    by_third true t e = subst (IsText text) (some_is _ _ e) (word_takes text (codes "working_dir") WorkingDir refl refl t)
    by_third false t e = directory_takes text rule e

    by_second : (b : Bool) → pointwise ◌==◌ text (codes "referencing_dir") ≡ b
        → cond b (Some ReferencingDir) (cond (pointwise ◌==◌ text (codes "working_dir")) (Some WorkingDir) (directory_at text)) ≡ Some rule
        → IsText text rule
    by_second true t e = subst (IsText text) (some_is _ _ e) (word_takes text (codes "referencing_dir") ReferencingDir refl refl t)
    by_second false t e = by_third (pointwise ◌==◌ text (codes "working_dir")) refl e

    by_first : (b : Bool) → pointwise ◌==◌ text (codes "initiated_segments") ≡ b
        → cond b (Some InitiatedSegments) (cond (pointwise ◌==◌ text (codes "referencing_dir")) (Some ReferencingDir)
        (cond (pointwise ◌==◌ text (codes "working_dir")) (Some WorkingDir) (directory_at text))) ≡ Some rule → IsText text rule
    by_first true t e = subst (IsText text) (some_is _ _ e) (word_takes text (codes "initiated_segments") InitiatedSegments refl refl t)
    by_first false t e = by_second (pointwise ◌==◌ text (codes "referencing_dir")) refl e

-- and a rule that fits is read back
no_word : (path : List (List ℕ)) → rule_at (path_text path) ≡ directory_at (path_text path)
no_word [] = refl
no_word (name ∷ names) = refl

absolute : (path : List (List ℕ)) → is_absolute (path_text path) ≡ true
absolute [] = refl
absolute (name ∷ names) = refl

no_climbs : (path : List (List ℕ)) → climbs (path_text path) ≡ 0
no_climbs [] = refl
no_climbs (name ∷ names) = refl

resolved_again : (path : List (List ℕ)) → IsPath path → result_ok (resolution [] (path_text path)) ≡ Some path
resolved_again path is =
    ap (λ (fault : Option PathError). result_ok (unless fault (resolved [] (path_text path))))
    (neither (nat_lt 0 (climbs (path_text path))) (nat_lt 168 (length (path_text (resolved [] (path_text path)))))
    (ap (nat_lt 0) (no_climbs path))
    (ap (λ xs. nat_lt 168 (length (path_text xs))) (path_again path is []) ∙ short (length (path_text path)) is.within))
    ∙ ap Some (path_again path is [])
  where
    neither : (a b : Bool) → a ≡ false → b ≡ false → cond a (Some AboveRoot) (cond b (Some TooLong) None) ≡ None
    neither a b e f = rw (e, f) refl

    short : (n : ℕ) → n ≤ 168 → nat_lt 168 n ≡ false
    short n l = grind (arith, nat_tests)

pub rule_again : (rule : Rule) → is_rule rule ≡ true → rule_at (rule_text rule) ≡ Some rule
rule_again InitiatedSegments e = refl
rule_again ReferencingDir e = refl
rule_again WorkingDir e = refl
rule_again (Directory path) e =
    let is = path_is path e in
    no_word path ∙ rw (absolute path, pathname_again (path_text path) (path_pathname path is), resolved_again path is) refl

pub rule_free : (byte : ℕ) (rule : Rule) → is_name_byte byte ≡ false → is_pathname_byte byte ≡ false → is_rule rule ≡ true
    → is_free byte (rule_text rule) ≡ true
rule_free byte InitiatedSegments no_name no_path e = all_free is_name_byte byte (codes "initiated_segments") no_name refl
rule_free byte ReferencingDir no_name no_path e = all_free is_name_byte byte (codes "referencing_dir") no_name refl
rule_free byte WorkingDir no_name no_path e = all_free is_name_byte byte (codes "working_dir") no_name refl
rule_free byte (Directory path) no_name no_path e = pathname_is_free byte (path_text path) no_path (path_pathname path (path_is path e))

-- several rules
pub record AreText (text : List ℕ) (rules : List Rule) : Type 0 where
  pub spelled : line_of (map rule_text rules) ≡ text
  pub fit : list_all is_rule rules ≡ true
  pub behind : (field : List ℕ) → line_of (field ∷ map rule_text rules) ≡ field ++ 32 ∷ line_of (map rule_text rules)

more_text : (text : List ℕ) (rule : Rule) (rules : List Rule) (x y : List ℕ) → text ≡ x ++ 32 ∷ y → IsText x rule → AreText y rules
    → AreText text (rule ∷ rules)
more_text text rule rules x y e first more = record {
  spelled = more.behind (rule_text rule) ∙ ap (λ xs. rule_text rule ++ 32 ∷ xs) more.spelled ∙ ap (λ xs. xs ++ 32 ∷ y) first.0 ∙ sym e;
  fit = both_hold _ _ first.1 more.fit;
  behind = λ field. refl;
}

pub rules_take : (left : ℕ) (text : List ℕ) (rules : List Rule) → rules_at left text ≡ Some rules → AreText text rules
unfolding rules_at
rules_take zero text rules e = cc
rules_take (suc left) text rules e = by_cut (cut_at 32 text) refl e (rules_take left)
  where
    by_cut : (o : Option (List ℕ × List ℕ)) → cut_at 32 text ≡ o → rules_by text o (rules_at left) ≡ Some rules
        → ((text : List ℕ) (rules : List Rule) → rules_at left text ≡ Some rules → AreText text rules) → AreText text rules
    by_cut None c e later =
        let rule = bind_some (rule_at text) _ rules e in
        let first = rule_takes text rule.0 rule.1 in
        subst (AreText text) (some_is _ _ rule.2) (record { spelled = first.0; fit = both_hold _ _ first.1 refl; behind = λ field. refl })
    by_cut (Some p) c e later =
        let rule = bind_some (rule_at p.0) _ rules e in
        let more = bind_some (rules_at left p.1) _ rules rule.2 in
        subst (AreText text) (some_is _ _ more.2)
        (more_text text rule.0 more.0 p.0 p.1 (cut_takes 32 text p c).0 (rule_takes p.0 rule.0 rule.1) (later p.1 more.0 more.1))

pub rules_again : (left : ℕ) (rules : List Rule) → 1 ≤ length rules → length rules ≤ left → list_all is_rule rules ≡ true
    → rules_at left (line_of (map rule_text rules)) ≡ Some rules
unfolding rules_at
rules_again left [] some most fit = absurd (omega arith)
rules_again zero (rule ∷ rules) some most fit = absurd (omega arith)
rules_again (suc left) (rule ∷ []) some most fit =
    let f = both (is_rule rule) true fit in
    rw (cut_none 32 (rule_text rule) (rule_free 32 rule refl refl f.0), rule_again rule f.0) refl
rules_again (suc left) (rule ∷ next ∷ rules) some most fit =
    let f = both (is_rule rule) (list_all is_rule (next ∷ rules)) fit in
    rw (
      cut_again 32 (rule_text rule) (line_of (map rule_text (next ∷ rules))) (rule_free 32 rule refl refl f.0),
      rule_again rule f.0,
      rules_again left (next ∷ rules) (omega arith) (omega arith) f.1,
    ) refl

-- a field before them has a blank behind it
pub rules_behind : (field : List ℕ) (rules : List Rule) → 1 ≤ length rules
    → line_of (field ∷ map rule_text rules) ≡ field ++ 32 ∷ line_of (map rule_text rules)
rules_behind field [] some = absurd (omega arith)
rules_behind field (rule ∷ rules) some = refl

-- the rules read so far, and those of the rest
one_less : (k : ℕ) → k < 16 → 16 - k ≡ suc (16 - (k + 1))
one_less k low = omega arith

pub rules_on : (first next : List Rule) (k : ℕ) (text : List ℕ) (p : List ℕ × List ℕ) (rule : Rule) → k < 16 → cut_at 32 text ≡ Some p
    → rule_at p.0 ≡ Some rule → next ≡ first ++ rule ∷ [] → rules_after first (rules_at (16 - k) text) ≡ rules_after next (rules_at (16 - (k + 1)) p.1)
unfolding rules_at
rules_on first next k text p rule low c e n = rw (one_less k low, c, e, n) (by_more (rules_at (16 - (k + 1)) p.1))
  where
    by_more : (more : Option (List Rule)) → rules_after first (more >>= λ rules. Some (rule ∷ rules)) ≡ rules_after (first ++ rule ∷ []) more
    by_more None = refl
    by_more (Some rules) = ap Some (sym (append_assoc first (rule ∷ []) rules))

pub rules_end : (first next : List Rule) (k : ℕ) (text : List ℕ) (rule : Rule) → k < 16 → cut_at 32 text ≡ None → rule_at text ≡ Some rule
    → next ≡ first ++ rule ∷ [] → rules_after first (rules_at (16 - k) text) ≡ Some next
unfolding rules_at
rules_end first next k text rule low c e n = rw (one_less k low, c, e, n) refl

pub no_rule_first : (first : List Rule) (k : ℕ) (text : List ℕ) (p : List ℕ × List ℕ) → k < 16 → cut_at 32 text ≡ Some p
    → rule_at p.0 ≡ None → rules_after first (rules_at (16 - k) text) ≡ None
unfolding rules_at
no_rule_first first k text p low c e = rw (one_less k low, c, e) refl

pub no_rule_last : (first : List Rule) (k : ℕ) (text : List ℕ) → k < 16 → cut_at 32 text ≡ None → rule_at text ≡ None
    → rules_after first (rules_at (16 - k) text) ≡ None
unfolding rules_at
no_rule_last first k text low c e = rw (one_less k low, c, e) refl

pub no_rules_left : (first : List Rule) (text : List ℕ) → rules_after first (rules_at 0 text) ≡ None
unfolding rules_at
no_rules_left first text = refl
