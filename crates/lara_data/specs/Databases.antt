-- Databases: stored tables in the rising order of their names, and what stores make of them.
use Rattle.std.specs.Prelude.{◌≡◌, Bool, true, false, cond, fold, ◌&&◌, ◌||◌, not, List, [], ◌∷◌, map, Option, Some, None, if◌then◌else◌}
use Rattle.std.proofs.Common.{refl, sym, ap, ◌∙◌}
use Rattle.std.proofs.lemmas.Bool.{and_parts, and_from}
use Rattle.lara_data.specs.ByteOrders.{bytes_cmp, byte_order}
use Rattle.lara_data.specs.KeyedTables.{same_key, before}
use Rattle.lara_data.specs.KeyedOrderLaws.{same_key_is, same_key_itself, before_trans, before_apart, after_by}
use Rattle.lara_data.specs.Names.{Name, same_name, same_name_is, same_name_itself, has, distinct}
use Rattle.lara_data.specs.Newest.{newer, newest}
use Rattle.lara_data.specs.Tables.{Table}
use Rattle.lara_data.specs.Denotations.{NamedTable, Database, Stored, table_named}

-- the names of the stored tables
abbrev pub names_of : Database → List Name
names_of db = map (λ d. d.name) db

-- the name a comes before the name b
abbrev pub name_before : Name → Name → Bool
name_before a b = before bytes_cmp a b

-- each name is past n
unfoldable pub names_past : Name → Database → Bool
names_past n [] = true
names_past n (d ∷ db) = name_before n d.name && names_past n db

-- the names rise: no two tables have one name
unfoldable pub names_rise : Database → Bool
names_rise [] = true
names_rise (d ∷ db) = names_past d.name db && names_rise db

-- the database with the table under the name: in the place of the name's table, or where the order of names puts it
unfoldable pub with_table : Name → Table → Database → Database
with_table n t [] = record { name = n; table = t } ∷ []
with_table n t (d ∷ db) =
    if name_before n d.name
    then record { name = n; table = t } ∷ d ∷ db
    else (if same_name n d.name then record { name = n; table = t } ∷ db else d ∷ with_table n t db)

-- the database after one store
abbrev pub after_store : Database → Stored → Database
after_store db s = with_table s.name s.table db

-- the new database: each stored name has the table of its last store, every other one its table as before
unfoldable pub after_stores : Database → List Stored → Database
after_stores db stores = fold after_store db stores

-- ---- laws

-- a name that comes before another is another
before_other : (a b : Name) → name_before a b ≡ true → same_name a b ≡ false
before_other a b h =
    elim (same_name a b) as (λ x. same_name a b ≡ x → x ≡ false) [
      | true ↦ λ s. let e : same_key bytes_cmp a b ≡ true = ap (same_key bytes_cmp a) (sym (same_name_is a b s)) ∙ same_key_itself byte_order a in sym e ∙ before_apart byte_order a b h
      | false ↦ λ s. refl
    ] refl

-- names past n are past each name before it
past_before : (m n : Name) (db : Database) → name_before m n ≡ true → names_past n db ≡ true → names_past m db ≡ true
unfolding names_past
past_before m n [] p h = refl
past_before m n (d ∷ db) p h =
    let both = and_parts (name_before n d.name) (names_past n db) h in
    and_from (name_before m d.name) (names_past m db) (before_trans byte_order m n d.name p both.0) (past_before m n db p both.1)

-- a name that all are past is not among them
past_absent : (n : Name) (db : Database) → names_past n db ≡ true → has (names_of db) n ≡ false
unfolding names_past has
past_absent n [] h = refl
past_absent n (d ∷ db) h =
    let both = and_parts (name_before n d.name) (names_past n db) h in
    λ i. before_other n d.name both.0 i || past_absent n db both.1 i

-- no name stands twice where names rise
pub names_rise-distinct : (db : Database) → names_rise db ≡ true → distinct (names_of db) ≡ true
unfolding names_rise distinct
names_rise-distinct [] h = refl
names_rise-distinct (d ∷ db) h =
    let both = and_parts (names_past d.name db) (names_rise db) h in
    and_from (not (has (names_of db) d.name)) (distinct (names_of db)) (ap not (past_absent d.name db both.0)) (names_rise-distinct db both.1)

-- what a table's name has, where a later one may have it
abbrev newer_table : Name → Option Table → NamedTable → Option Table
newer_table n found d = newer (λ d. d.name) (λ d. d.table) n found d

-- the table that a name has, found from the front, is kept past tables of other names
absent_from : (n : Name) (db : Database) (found : Option Table) → has (names_of db) n ≡ false → fold (newer_table n) found db ≡ found
unfolding has
absent_from n [] found h = refl
absent_from n (d ∷ db) found h =
    elim (same_name n d.name) as (λ b. (b || has (names_of db) n) ≡ false → fold (newer_table n) (cond b (Some d.table) found) db ≡ found) [
      | true ↦ λ e. cc
      | false ↦ λ e. absent_from n db found e
    ] h

-- a new table in front of tables of other names
put_first : (n m : Name) (t : Table) (db : Database) (found : Option Table) → has (names_of db) m ≡ false → fold (newer_table n) (cond (same_name n m) (Some t) found) db ≡ cond (same_name n m) (Some t) (fold (newer_table n) found db)
put_first n m t db found h =
    elim (same_name n m) as (λ b. same_name n m ≡ b → fold (newer_table n) (cond b (Some t) found) db ≡ cond b (Some t) (fold (newer_table n) found db)) [
      | true ↦ λ s. absent_from n db (Some t) (ap (has (names_of db)) (same_name_is n m s) ∙ h)
      | false ↦ λ s. refl
    ] refl

-- a new table in the place of one of its name
put_over : (n m : Name) (t : Table) (d : NamedTable) (db : Database) (found : Option Table) → m ≡ d.name → has (names_of db) m ≡ false → fold (newer_table n) (cond (same_name n m) (Some t) found) db ≡ cond (same_name n m) (Some t) (fold (newer_table n) (newer_table n found d) db)
put_over n m t d db found e h =
    put_first n m t db found h
    ∙ (elim (same_name n m) as (λ b. same_name n m ≡ b → cond b (Some t) (fold (newer_table n) found db) ≡ cond b (Some t) (fold (newer_table n) (newer_table n found d) db)) [
      | true ↦ λ s. refl
      | false ↦ λ s. ap (λ b. fold (newer_table n) (cond b (Some d.table) found) db) (sym s ∙ ap (same_name n) e)
    ] refl)

with_from : (n m : Name) (t : Table) (db : Database) (found : Option Table) → names_rise db ≡ true → fold (newer_table n) found (with_table m t db) ≡ cond (same_name n m) (Some t) (fold (newer_table n) found db)
unfolding with_table names_rise names_past
with_from n m t [] found h = refl
with_from n m t (d ∷ db) found h =
    let both = and_parts (names_past d.name db) (names_rise db) h in
    elim (name_before m d.name) as (λ b. name_before m d.name ≡ b → fold (newer_table n) found (cond b (record { name = m; table = t } ∷ d ∷ db) (cond (same_name m d.name) (record { name = m; table = t } ∷ db) (d ∷ with_table m t db))) ≡ cond (same_name n m) (Some t) (fold (newer_table n) found (d ∷ db))) [
      | true ↦ λ s. put_first n m t (d ∷ db) found (past_absent m (d ∷ db) (and_from (name_before m d.name) (names_past m db) s (past_before m d.name db s both.0)))
      | false ↦ λ s. here both.0 (with_from n m t db (newer_table n found d) both.1)
    ] refl
  where
    here : names_past d.name db ≡ true → fold (newer_table n) (newer_table n found d) (with_table m t db) ≡ cond (same_name n m) (Some t) (fold (newer_table n) (newer_table n found d) db) → fold (newer_table n) found (cond (same_name m d.name) (record { name = m; table = t } ∷ db) (d ∷ with_table m t db)) ≡ cond (same_name n m) (Some t) (fold (newer_table n) (newer_table n found d) db)
    here p rest =
        elim (same_name m d.name) as (λ b. same_name m d.name ≡ b → fold (newer_table n) found (cond b (record { name = m; table = t } ∷ db) (d ∷ with_table m t db)) ≡ cond (same_name n m) (Some t) (fold (newer_table n) (newer_table n found d) db)) [
          | true ↦ λ s. let e = same_name_is m d.name s in put_over n m t d db found e (ap (has (names_of db)) e ∙ past_absent d.name db p)
          | false ↦ λ s. rest
        ] refl

-- a stored name has the stored table, and every other name its table as before
pub table_named-with_table : (n m : Name) (t : Table) (db : Database) → names_rise db ≡ true → table_named n (with_table m t db) ≡ cond (same_name n m) (Some t) (table_named n db)
unfolding newest
table_named-with_table n m t db h = with_from n m t db None h

-- names past n stay so with one more that is past it
past-with_table : (n m : Name) (t : Table) (db : Database) → name_before n m ≡ true → names_past n db ≡ true → names_past n (with_table m t db) ≡ true
unfolding with_table names_past
past-with_table n m t [] p h = and_from (name_before n m) true p refl
past-with_table n m t (d ∷ db) p h =
    let both = and_parts (name_before n d.name) (names_past n db) h in
    elim (name_before m d.name) as (λ b. names_past n (cond b (record { name = m; table = t } ∷ d ∷ db) (cond (same_name m d.name) (record { name = m; table = t } ∷ db) (d ∷ with_table m t db))) ≡ true) [
      | true ↦ and_from (name_before n m) (names_past n (d ∷ db)) p h
      | false ↦ elim (same_name m d.name) as (λ b. names_past n (cond b (record { name = m; table = t } ∷ db) (d ∷ with_table m t db)) ≡ true) [
        | true ↦ and_from (name_before n m) (names_past n db) p both.1
        | false ↦ and_from (name_before n d.name) (names_past n (with_table m t db)) both.0 (past-with_table n m t db p both.1)
      ]
    ]

-- a name that is neither before another nor the same is past it
past_by : (a b : Name) → name_before a b ≡ false → same_name a b ≡ false → name_before b a ≡ true
past_by a b p q =
    after_by byte_order a b p
    (elim (same_key bytes_cmp a b) as (λ x. same_key bytes_cmp a b ≡ x → x ≡ false) [
      | true ↦ λ s. let e : same_name a b ≡ true = ap (same_name a) (sym (same_key_is byte_order a b s)) ∙ same_name_itself a in sym e ∙ q
      | false ↦ λ s. refl
    ] refl)

-- the names of the new database rise
pub names_rise-with_table : (m : Name) (t : Table) (db : Database) → names_rise db ≡ true → names_rise (with_table m t db) ≡ true
unfolding with_table names_rise names_past
names_rise-with_table m t [] h = refl
names_rise-with_table m t (d ∷ db) h =
    let both = and_parts (names_past d.name db) (names_rise db) h in
    elim (name_before m d.name) as (λ b. name_before m d.name ≡ b → names_rise (cond b (record { name = m; table = t } ∷ d ∷ db) (cond (same_name m d.name) (record { name = m; table = t } ∷ db) (d ∷ with_table m t db))) ≡ true) [
      | true ↦ λ s. and_from (names_past m (d ∷ db)) (names_rise (d ∷ db)) (and_from (name_before m d.name) (names_past m db) s (past_before m d.name db s both.0)) h
      | false ↦ λ s. here both.0 both.1 s (names_rise-with_table m t db both.1)
    ] refl
  where
    here : names_past d.name db ≡ true → names_rise db ≡ true → name_before m d.name ≡ false → names_rise (with_table m t db) ≡ true → names_rise (cond (same_name m d.name) (record { name = m; table = t } ∷ db) (d ∷ with_table m t db)) ≡ true
    here p r s rest =
        elim (same_name m d.name) as (λ b. same_name m d.name ≡ b → names_rise (cond b (record { name = m; table = t } ∷ db) (d ∷ with_table m t db)) ≡ true) [
          | true ↦ λ q. and_from (names_past m db) (names_rise db) (ap (λ (n : Name). names_past n db) (same_name_is m d.name q) ∙ p) r
          | false ↦ λ q. and_from (names_past d.name (with_table m t db)) (names_rise (with_table m t db)) (past-with_table d.name m t db (past_by m d.name s q) p) rest
        ] refl

-- the table of the last store under the name, or else the one before all stores
abbrev pub newer_store : Name → Option Table → Stored → Option Table
newer_store n found s = newer (λ s. s.name) (λ s. s.table) n found s

pub table_named-after_stores : (n : Name) (db : Database) (stores : List Stored) → names_rise db ≡ true → table_named n (after_stores db stores) ≡ fold (newer_store n) (table_named n db) stores
unfolding after_stores
table_named-after_stores n db [] h = refl
table_named-after_stores n db (s ∷ stores) h =
    table_named-after_stores n (with_table s.name s.table db) stores (names_rise-with_table s.name s.table db h)
    ∙ ap (λ found. fold (newer_store n) found stores) (table_named-with_table n s.name s.table db h)

-- the names of the database after all stores rise
pub names_rise-after_stores : (db : Database) (stores : List Stored) → names_rise db ≡ true → names_rise (after_stores db stores) ≡ true
unfolding after_stores
names_rise-after_stores db [] h = h
names_rise-after_stores db (s ∷ stores) h = names_rise-after_stores (with_table s.name s.table db) stores (names_rise-with_table s.name s.table db h)
