-- What UPDATE, DELETE and INSERT make of the rows of one table, as membership.
use Rattle.std.proofs.Common.{◌≡◌, ℤ, List, [], ◌∷◌, map, drop, true, false, not, cond, Bool, refl}
use Rattle.std.proofs.Common.{sym, ap, subst, ◌∙◌, true≢false, ◌⊎◌, inl, inr, Ordering, Less, Equal}
use Rattle.std.proofs.Common.{Greater}
use Rattle.std.specs.List.{list_any}
use Rattle.std.specs.Ordering.{is_eq}
use Rattle.std.proofs.lemmas.Bool.{and_parts, not-true}
use Rattle.std.proofs.lemmas.Cmp.{tied_itself}
use Rattle.std.proofs.lemmas.Map.Lookups.{exact_signed}
use Rattle.sqlite_value.specs.declared.value.Value.{Value}
use Rattle.sqlite_value.specs.declared.value.Value.TheVariants.{Int}
use Rattle.sqlite_value.proofs.OrderLemmas.{value_cmp_total, value_cmp-Int}
use Rattle.sqlite.specs.Order.{Row, value_cmp, class, column}
use Rattle.sqlite.specs.Tree.{Trees, rowid, has_rowid, put_row, without_rowid}
use Rattle.sqlite.specs.Term.{Term, eval_all}
use Rattle.sqlite.specs.Query.{Query, IsAnswerAs}
use Rattle.sqlite.specs.Table.{Table}
use Rattle.sqlite.specs.Schema.{Schema}
use Rattle.sqlite_schema.specs.declared.schema.Keys.{Keys}
use Rattle.sqlite.specs.Edit.{Edit, id_in, edit_of, edited, without_all, put_all, is_taken}
use Rattle.sqlite.specs.Edit.{are_fresh, numbered, Applies}
use Rattle.sqlite.specs.Kind.TheVariants.{Integer}
use Rattle.sqlite.specs.Cast.{cast, cast_row}
use Rattle.sqlite.specs.Rowids.TheVariants.{Given, Chosen}
use Rattle.sqlite_rules.specs.Calls.{ids_of}
use Rattle.sqlite_rules.specs.Lists.{Has}
use Rattle.sqlite_rules.proofs.ListLemmas.{has_filtered, has_kept, some_from}
use Rattle.sqlite_rules.proofs.PlaceLemmas.{given}
use Rattle.sqlite_rules.proofs.TableLemmas.{put_all_has, put_all_keeps, put_all_adds}
use Rattle.acct_sql_tables.specs.Tidy.{IsTidy}
use Rattle.acct_sql_tables.proofs.ValueLemmas.{cast_int}
use Rattle.acct_sql_tables.proofs.FindLemmas.{IsMapped, IsLeft, IsAdded}
use Rattle.acct_sql_tables.proofs.QueryLemmas.{has_mapped, map_has, over_table, all_rows, meets}
use Rattle.acct_sql_tables.proofs.QueryLemmas.{shown_has}
use Rattle.acct_sql_tables.proofs.QueryLemmas.{has_shown}

pub any_false : {X : Type 0} (p : X → Bool) (xs : List X) (x : X) → list_any p xs ≡ false → Has xs x
    → p x ≡ false
any_false p xs x none h = go (p x) refl
  where
    go : (b : Bool) → p x ≡ b → p x ≡ false
    go true is = absurd (true≢false (sym (some_from p xs x h is) ∙ none))
    go false is = is

is_equal : (o : Ordering) → is_eq o ≡ true → o ≡ Equal
is_equal Less h = absurd (true≢false (sym h))
is_equal Equal h = refl
is_equal Greater h = absurd (true≢false (sym h))

pub rowid_is : (id : ℤ) (r : Row) (n : ℤ) → rowid r ≡ Int n → has_rowid id r ≡ true → n ≡ id
rowid_is id r n is h = exact_signed n id (sym (value_cmp-Int n id)
    ∙ (ap (λ v. value_cmp v (Int id)) (sym is) ∙ is_equal (value_cmp (rowid r) (Int id)) h))

pub is_rowid : (r : Row) (n : ℤ) → rowid r ≡ Int n → has_rowid n r ≡ true
is_rowid r n is = ap is_eq (ap (λ v. value_cmp v (Int n)) is ∙ tied_itself value_cmp_total (Int n))

pub left_has : (ids : List ℤ) (rows : List Row) (x : Row) → Has (without_all rows ids) x
    → Has rows x × ((id : ℤ) → Has ids id → has_rowid id x ≡ false)
left_has [] rows x h = (h, λ id none. absurd none)
left_has (id ∷ ids) rows x h =
    let rest = left_has ids (without_rowid id rows) x h in
    let here = has_filtered (λ r. not (has_rowid id r)) rows x rest.0 in (
      here.0,
      λ other at. elim at [
        | inl same ↦ rw same (not-true (has_rowid id x) here.1)
        | inr later
            ↦ rest.1 other later
      ],
    )

pub has_left : (ids : List ℤ) (rows : List Row) (x : Row) → Has rows x
    → ((id : ℤ) → Has ids id → has_rowid id x ≡ false) → Has (without_all rows ids) x
has_left [] rows x h none = h
has_left (id ∷ ids) rows x h none =
    has_left ids (without_rowid id rows) x (has_kept (λ r. not (has_rowid id r)) rows x h
    (ap not (none id (inl refl)))) (λ other at. none other (inr at))

-- ---- the rows that an answer names by their rowids

module _ (table : Table) (filter project : List Term) (lost : Value) (db : Trees) (params : Row)
    (answer : List Row)
    (a : IsAnswerAs lost (over_table table.tree filter project [] all_rows) db params answer)
    (first : (r : Row) → rowid (eval_all project (params ∷ r ∷ [])) ≡ rowid r)
    (tidy : IsTidy (db table.tree)) where
  abbrev is_met : Row → Bool
  is_met = meets table.tree filter project [] lost db params

  -- a row that none of them names is not met
  unmet : (y : Row) → Has (db table.tree) y
      → ((id : ℤ) → Has (ids_of answer) id → has_rowid id y ≡ false) → is_met y ≡ false
  unmet y h none = go (is_met y) refl
    where
      go : (b : Bool) → is_met y ≡ b → is_met y ≡ false
      go false is = is
      go true is =
          let row = has_shown table.tree filter project [] lost db params answer a y h is in
          let id = map_has (λ r. id_in (rowid r)) answer _ row in
          let mine = none _ id in
          absurd (true≢false (sym (is_rowid y _ (tidy.ints y h))
          ∙ (ap (λ v. has_rowid (id_in v) y) (sym (first y)) ∙ mine)))

  -- none of them names a row that is not met
  unnamed : (y : Row) → Has (db table.tree) y → is_met y ≡ false → (id : ℤ)
      → Has (ids_of answer) id → has_rowid id y ≡ false
  unnamed y h is_not id at = go (has_rowid id y) refl
    where
      go : (b : Bool) → has_rowid id y ≡ b → has_rowid id y ≡ false
      go false is = is
      go true is =
          let s = has_mapped (λ r. id_in (rowid r)) answer id at in
          let r = shown_has table.tree filter project [] lost db params answer a s.0 s.1 in
          let mine : id ≡ id_in (rowid r.0) = s.2 ∙ (ap (λ t. id_in (rowid t)) r.3
          ∙ ap id_in (first r.0)) in
          let n = rowid_is id y (id_in (rowid y)) (tidy.ints y h) is in
          let same : rowid y ≡ rowid r.0 = tidy.ints y h
          ∙ (ap Int (n ∙ mine) ∙ sym (tidy.ints r.0 r.1)) in
          absurd (true≢false (sym r.2 ∙ (ap is_met (sym (tidy.keyed y r.0 h r.1 same)) ∙ is_not)))

-- ---- UPDATE

module _ (schema : Schema) (keys : Keys) (table : Table) (filter project : List Term) (lost : Value)
    (db next : Trees) (params : Row) (answer : List Row)
    (a : IsAnswerAs lost (over_table table.tree filter project [] all_rows) db params answer)
    (first : (r : Row) → rowid (eval_all project (params ∷ r ∷ [])) ≡ rowid r)
    (second : (r : Row) → column (drop 1 (eval_all project (params ∷ r ∷ []))) 0 ≡ rowid r)
    (tidy : IsTidy (db table.tree))
    (applies : Applies schema keys db (edit_of db table (ids_of answer) Given 1 answer) next) where
  abbrev pub rewritten : Row → Row
  rewritten r = cast_row table (drop 1 (eval_all project (params ∷ r ∷ [])))

  abbrev met : Row → Bool
  met = meets table.tree filter project [] lost db params

  news_are : numbered Given (without_all (db table.tree) (ids_of answer))
      (map (λ s. cast_row table (drop 1 s)) answer) ≡ map (λ s. cast_row table (drop 1 s)) answer
  news_are = given _ _

  after_is : next table.tree ≡ put_all (without_all (db table.tree) (ids_of answer))
      (map (λ s. cast_row table (drop 1 s)) answer)
  after_is = applies.rows ∙ ap (put_all (without_all (db table.tree) (ids_of answer))) news_are

  fresh : are_fresh (without_all (db table.tree) (ids_of answer))
      (map (λ s. cast_row table (drop 1 s)) answer) ≡ true
  fresh = ap (are_fresh (without_all (db table.tree) (ids_of answer))) (sym news_are)
      ∙ applies.fresh

  pub after_update : (y : Row) → Has (next table.tree) y → (Has (db table.tree) y × (met y ≡ false))
      ⊎ ((r : Row) × Has (db table.tree) r × (met r ≡ true) × (y ≡ rewritten r))
  after_update y h = elim (put_all_has _ _ y (subst (λ k. Has k y) after_is h)) [
    | inl new ↦
        let s = has_mapped (λ s. cast_row table (drop 1 s)) answer y new in
        let r = shown_has table.tree filter project [] lost db params answer a s.0 s.1 in
        inr (r.0, r.1, r.2, s.2 ∙ ap (λ s. cast_row table (drop 1 s)) r.3)
    | inr old ↦
        let was = left_has (ids_of answer) (db table.tree) y old in
        inl (was.0, unmet table filter project lost db params answer a first tidy y was.0 was.1)
  ]

  pub update_keeps : (y : Row) → Has (db table.tree) y → met y ≡ false → Has (next table.tree) y
  update_keeps y h is_not =
      subst (λ k. Has k y) (sym after_is) (put_all_keeps _ _ y fresh
      (has_left (ids_of answer) (db table.tree) y h
      (unnamed table filter project lost db params answer a first tidy y h is_not)))

  pub update_sets : (r : Row) → Has (db table.tree) r → met r ≡ true
      → Has (next table.tree) (rewritten r)
  update_sets r h passes =
      let row = has_shown table.tree filter project [] lost db params answer a r h passes in
      subst (λ k. Has k (rewritten r)) (sym after_is) (put_all_adds _ _ (rewritten r) fresh
      (map_has (λ s. cast_row table (drop 1 s)) answer _ row))

  -- a row that is met is rewritten
  abbrev pub stepped : Row → Row
  stepped r = cond (meets table.tree filter project [] lost db params r) (rewritten r) r

  pub update_mapped : IsMapped stepped (db table.tree) (next table.tree)
  update_mapped = record {
    back = λ y h. elim (after_update y h) [
      | inl was ↦ (y, was.0, sym (ap (λ b. cond b (rewritten y) y) was.1))
      | inr it ↦ (it.0, it.1, it.3 ∙ sym (ap (λ b. cond b (rewritten it.0) it.0) it.2))
    ];
    forth = λ r h. went r h (met r) refl;
  }
    where
      went : (r : Row) → Has (db table.tree) r → (b : Bool) → met r ≡ b
          → Has (next table.tree) (cond b (rewritten r) r)
      went r h true is = update_sets r h is
      went r h false is = update_keeps r h is

  pub stepped_id : (r : Row) → Has (db table.tree) r → rowid (stepped r) ≡ rowid r
  stepped_id r h = go (met r)
    where
      go : (b : Bool) → rowid (cond b (rewritten r) r) ≡ rowid r
      go true = ap (cast Integer) (second r ∙ tidy.ints r h) ∙ (cast_int _ ∙ sym (tidy.ints r h))
      go false = refl

  pub update_tidy : IsTidy (next table.tree)
  update_tidy = record {
    ints = λ y h. let b = update_mapped.back y h in let id : rowid y ≡ rowid b.0 = ap rowid b.2
        ∙ stepped_id b.0 b.1 in id ∙ (tidy.ints b.0 b.1 ∙ ap (λ v. Int (id_in v)) (sym id));
    keyed = λ x y h k same.
        let a = update_mapped.back x h in
        let b = update_mapped.back y k in
        let ids : rowid a.0 ≡ rowid b.0 = sym (ap rowid a.2 ∙ stepped_id a.0 a.1)
        ∙ (same ∙ (ap rowid b.2 ∙ stepped_id b.0 b.1)) in
        a.2 ∙ (ap stepped (tidy.keyed a.0 b.0 a.1 b.1 ids) ∙ sym b.2);
  }

-- ---- DELETE

module _ (schema : Schema) (keys : Keys) (table : Table) (filter project : List Term) (lost : Value)
    (db next : Trees) (params : Row) (answer : List Row)
    (a : IsAnswerAs lost (over_table table.tree filter project [] all_rows) db params answer)
    (first : (r : Row) → rowid (eval_all project (params ∷ r ∷ [])) ≡ rowid r)
    (tidy : IsTidy (db table.tree))
    (applies : Applies schema keys db (edit_of db table (ids_of answer) Given 0 []) next) where
  -- the rows that are not met are left
  pub delete_left : IsLeft (meets table.tree filter project [] lost db params) (db table.tree)
      (next table.tree)
  delete_left = record {
    back = λ y h.
        let was = left_has (ids_of answer) (db table.tree) y
        (subst (λ k. Has k y) applies.rows h) in
        (was.0, unmet table filter project lost db params answer a first tidy y was.0 was.1);
    forth = λ y h is_not. subst (λ k. Has k y) (sym applies.rows)
        (has_left (ids_of answer) (db table.tree) y h
        (unnamed table filter project lost db params answer a first tidy y h is_not));
  }

  pub delete_tidy : IsTidy (next table.tree)
  delete_tidy = record {
    ints = λ y h. tidy.ints y (delete_left.back y h).0;
    keyed = λ x y h k. tidy.keyed x y (delete_left.back x h).0 (delete_left.back y k).0;
  }

-- ---- INSERT of one row

module _ (schema : Schema) (keys : Keys) (table : Table) (db next : Trees) (source : Row)
    (plain : table.is_counted ≡ false)
    (applies : Applies schema keys db (edit_of db table [] Chosen 0 (source ∷ [])) next) where
  abbrev pub inserted : Row
  inserted = Rattle.sqlite.specs.Edit.with_rowid Chosen (db table.tree) (cast_row table source)

  pub after_insert : (y : Row) → Has (next table.tree) y → (y ≡ inserted) ⊎ Has (db table.tree) y
  after_insert y h = elim (put_all_has (inserted ∷ []) (db table.tree) y
      (subst (λ k. Has k y) applies.rows h)) [
        | inl new ↦ elim new [ inl same ↦ inl same | inr none ↦ absurd none ]
        | inr old ↦ inr old
      ]

  pub insert_keeps : (y : Row) → Has (db table.tree) y → Has (next table.tree) y
  insert_keeps y h = subst (λ k. Has k y) (sym applies.rows)
      (put_all_keeps (inserted ∷ []) (db table.tree) y applies.fresh h)

  pub insert_adds : Has (next table.tree) inserted
  insert_adds = subst (λ k. Has k inserted) (sym applies.rows)
      (put_all_adds (inserted ∷ []) (db table.tree) inserted applies.fresh (inl refl))

  pub insert_added : IsAdded inserted (db table.tree) (next table.tree)
  insert_added = record { back = after_insert; forth = insert_keeps; adds = insert_adds }

  module _ (tidy : IsTidy (db table.tree)) (n : ℤ) (id : rowid inserted ≡ Int n) where
    apart : (r : Row) → Has (db table.tree) r → rowid r ≡ rowid inserted → ⊥
    apart r h same =
        let free = not-true _ (and_parts _ _ applies.fresh).0 in
        let here = any_false (λ x. is_eq (value_cmp (rowid x) (rowid inserted))) (db table.tree) r
        free h in
        absurd (true≢false (sym (ap is_eq (ap (λ v. value_cmp v (rowid inserted)) same
        ∙ tied_itself value_cmp_total (rowid inserted))) ∙ here))

    pub insert_tidy : IsTidy (next table.tree)
    insert_tidy = record {
      ints = λ y h. elim (after_insert y h) [
        | inl is ↦ ap rowid is
            ∙ (id ∙ ap (λ v. Int (id_in v)) (sym (ap rowid is ∙ id)))
        | inr was ↦ tidy.ints y was
      ];
      keyed = λ x y h k same. elim (after_insert x h) [
        | inl one ↦ elim (after_insert y k) [
          | inl two ↦ one
              ∙ sym two
          | inr was ↦ absurd (apart y was (sym same ∙ ap rowid one))
        ]
        | inr was ↦ elim (after_insert y k) [
          | inl two ↦ absurd (apart x was (same ∙ ap rowid two))
          | inr is ↦ tidy.keyed x y was is same
        ]
      ];
    }
