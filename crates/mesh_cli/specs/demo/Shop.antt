-- The shop project, as the files of a folder.
use Rattle.std.specs.Prelude.{ℕ, zero, suc, ◌+◌, ◌*◌, ◌/◌, ◌%◌, List, [], ◌∷◌, codes}
use Rattle.std.specs.Fmt.{decimal}
use Rattle.mesh_cli_print.specs.faults.Lines.{◌·◌}
use Rattle.mesh_io.specs.Files.{rewritten}
use Rattle.mesh_io.specs.declared.files.File.{File}

-- the source is declared
abbrev pub externals : List ℕ
externals = codes "name,column,type,role\nraw.orders,id,INT,\nraw.orders,day,DATE,time\nraw.orders,qty,INT,\n"

-- the orders of each day, with some items more
abbrev pub daily : List ℕ → List ℕ
daily more =
    codes "MODEL (name shop.daily, kind INCREMENTAL_BY_TIME_RANGE (time_column day), start '2024-01-01');\nSELECT id, day, qty" · more
    · codes " FROM raw.orders WHERE day BETWEEN @start_ds AND @end_ds\n"

-- the total and the number of each day's orders
abbrev pub totals : List ℕ
totals = codes "MODEL (name shop.totals, kind FULL);\nSELECT day, SUM(qty) AS total, COUNT(*) AS n FROM shop.daily GROUP BY 1\n"

abbrev pub two_digits : ℕ → List ℕ
two_digits n = (48 + n / 10) ∷ (48 + n % 10) ∷ []

-- one order, by its number from 0 on: its id, its day, which is one of ten, and how much of it
abbrev pub order_line : ℕ → List ℕ
order_line k = decimal (k + 1) · codes ",2024-01-" · two_digits (k % 10 + 1) · codes "," · decimal (7 * k % 13 + 1) · codes "\n"

abbrev pub order_lines : ℕ → List ℕ
order_lines zero = []
order_lines (suc k) = order_lines k · order_line k

-- so many orders
abbrev pub orders : ℕ → List ℕ
orders n = codes "id,day,qty\n" · order_lines n

abbrev pub file : List ℕ → List ℕ → File
file path bytes = record { path = path; bytes = bytes }

-- the project with so many orders
abbrev pub shop : ℕ → List File
shop n =
    file (codes "external_models.csv") externals ∷ file (codes "models/daily.sql") (daily []) ∷ file (codes "models/totals.sql") totals
    ∷ file (codes "orders.csv") (orders n) ∷ []

-- each day's orders with one column more
abbrev pub twice_file : File
twice_file = file (codes "models/daily.sql") (daily (codes ", qty * 2 AS twice"))

-- the project where that column was added
abbrev pub edited : List File → List File
edited files = rewritten twice_file files
