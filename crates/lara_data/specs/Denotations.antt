-- What a tree means, and what a script means: the tables that its names get, and what it prints and stores.
use Rattle.std.specs.Prelude.{ℕ, ◌+◌, fold, List, [], ◌∷◌, ◌++◌, Option, Some, None}
use Rattle.lara_data.specs.declared.node.Node.{Node}
use Rattle.lara_data.specs.declared.node.Op.{Op}
use Rattle.lara_data.specs.declared.node.Op.TheBlock.{end_of-Node, more_of-Node}
use Rattle.lara_data.specs.declared.node.Op.TheVariants.{Load, Named, Literal, Join', Union', Agg', Map', Filter', Promote', Rename', Apply'}
use Rattle.lara_data.specs.declared.order.EachOp.TheVariants as each
use Rattle.lara_data.specs.declared.script.Statement.{Statement}
use Rattle.lara_data.specs.declared.script.Statement.TheVariants.{Assign, Print, Store}
use Rattle.lara_data.specs.TableTypes.{Columns}
use Rattle.lara_data.specs.Names.{Name}
use Rattle.lara_data.specs.Newest.{newest}
use Rattle.lara_data.specs.Tables.{Table, table_of}
use Rattle.lara_data.specs.Algebra.{join_tables, union_tables, agg_table}
use Rattle.lara_data.specs.Plugins.{Plugins}
use Rattle.lara_data.specs.Extensions.{ext, renamed}

-- a name with its table
pub record NamedTable : Type 0 where
  pub name : Name
  pub table : Table

-- the stored tables, in the rising order of their names; of two tables of one name, which no depot has, the later is meant
abbrev pub Database : Type 0
Database = List NamedTable

-- the newest table of a name
abbrev pub table_named : Name → List NamedTable → Option Table
table_named n tables = newest (λ d. d.name) (λ d. d.table) n tables

-- the table; where a name has none, which no typed script that fits its database meets, the empty one
abbrev pub table_or_empty : Columns → Option Table → Table
table_or_empty ty None = table_of ty []
table_or_empty ty (Some table) = table

-- ---- trees

-- the table of an operator, over the database and the tables that the script assigned so far
unfoldable pub meaning : Plugins → Database → List NamedTable → Op → Columns → Table
meaning ps db tables (Load n) ty = table_or_empty ty (table_named n db)
meaning ps db tables (Named n) ty = table_or_empty ty (table_named n tables)
meaning ps db tables (Literal es) ty = table_of ty es
meaning ps db tables (Join' _ (more_of-Node t a end_of-Node) _ (more_of-Node u b end_of-Node)) ty = join_tables (meaning ps db tables a t) (meaning ps db tables b u)
meaning ps db tables (Union' _ (more_of-Node t a end_of-Node) _ (more_of-Node u b end_of-Node)) ty = union_tables (meaning ps db tables a t) (meaning ps db tables b u)
meaning ps db tables (Agg' _ (more_of-Node t a end_of-Node) ks) ty = agg_table (meaning ps db tables a t) ks
meaning ps db tables (Map' _ (more_of-Node t a end_of-Node) defs) ty = ext ps (each.Map defs) (meaning ps db tables a t)
meaning ps db tables (Filter' _ (more_of-Node t a end_of-Node) test) ty = ext ps (each.Filter test) (meaning ps db tables a t)
meaning ps db tables (Promote' _ (more_of-Node t a end_of-Node) def) ty = ext ps (each.Promote def) (meaning ps db tables a t)
meaning ps db tables (Rename' _ (more_of-Node t a end_of-Node) pairs) ty = renamed pairs (meaning ps db tables a t)
meaning ps db tables (Apply' _ (more_of-Node t a end_of-Node) call) ty = ext ps (each.Apply call) (meaning ps db tables a t)

-- the table of a tree
abbrev pub meaning_of : Plugins → Database → List NamedTable → Node → Table
meaning_of ps db tables node = meaning ps db tables node.op node.ty

-- ---- scripts

-- a print: its statement counted from 1, the name, the order of its key columns and the table
pub record Printed : Type 0 where
  pub statement : ℕ
  pub name : Name
  pub order : List Name
  pub table : Table

-- a store: its statement counted from 1, the name that the table gets in the database, and the table
pub record Stored : Type 0 where
  pub statement : ℕ
  pub name : Name
  pub table : Table

-- how many statements were run, the tables that they assigned, what they printed and what they stored
pub record Running : Type 0 where
  pub statement : ℕ
  pub tables : List NamedTable
  pub prints : List Printed
  pub stores : List Stored

-- what a script prints and stores
pub record Answers : Type 0 where
  pub prints : List Printed
  pub stores : List Stored

-- what a statement prints of a name: its table in the order; where there is none, as in no typed script, nothing
abbrev pub print_of : ℕ → Name → List Name → Option Table → List Printed
print_of statement name order None = []
print_of statement name order (Some table) = record { statement = statement; name = name; order = order; table = table } ∷ []

-- what a statement stores under a name: the table; where there is none, as in no typed script, nothing
abbrev pub store_of : ℕ → Name → Option Table → List Stored
store_of statement name None = []
store_of statement name (Some table) = record { statement = statement; name = name; table = table } ∷ []

-- after a print
abbrev pub after_printing : Running → Name → List Name → Running
after_printing r name order = record { statement = r.statement + 1; tables = r.tables; prints = r.prints ++ print_of (r.statement + 1) name order (table_named name r.tables); stores = r.stores }

-- after a store
abbrev pub after_storing : Running → Name → Name → Running
after_storing r old new = record { statement = r.statement + 1; tables = r.tables; prints = r.prints; stores = r.stores ++ store_of (r.statement + 1) new (table_named old r.tables) }

-- after one more statement; what is stored does not change what is loaded
abbrev pub after : Plugins → Database → Running → Statement → Running
after ps db r (Assign name node) = record { statement = r.statement + 1; tables = r.tables ++ record { name = name; table = meaning_of ps db r.tables node } ∷ []; prints = r.prints; stores = r.stores }
after ps db r (Print name order) = after_printing r name order
after ps db r (Store old new) = after_storing r old new

-- before the first statement
abbrev pub before_all : Running
before_all = record { statement = 0; tables = []; prints = []; stores = [] }

-- after statements, one after the other
unfoldable pub after_all : Plugins → Database → List Statement → Running
after_all ps db ss = fold (after ps db) before_all ss

-- what a script over a database prints and stores
unfoldable pub denotation : Plugins → Database → List Statement → Answers
denotation ps db ss = let r = after_all ps db ss in record { prints = r.prints; stores = r.stores }
