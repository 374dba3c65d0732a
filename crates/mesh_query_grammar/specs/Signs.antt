-- What a list of tokens begins with, up to the rest behind it.
use Rattle.std.specs.Prelude.{◌≡◌, ℕ, ℤ, List, [], ◌∷◌, codes, Bool, true, false, Option, Some, None, ◌⊎◌}
use Rattle.mesh_base_values.specs.declared.values.ColType.{ColType}
use Rattle.mesh_query_tokens.specs.declared.tokens.Token.{Token}
use Rattle.mesh_query_tokens.specs.declared.tokens.TokenKind.{TokenKind}
use Rattle.mesh_query_tokens.specs.declared.tokens.TokenKind.TheVariants.{Ident, Text, Sign}
use Rattle.mesh_query_grammar.specs.declared.surface.signs.Cmp.{Cmp}
use Rattle.mesh_query_grammar.specs.declared.surface.signs.Cmp.TheVariants as cmp
use Rattle.mesh_query_grammar.specs.declared.surface.signs.AddSign.{AddSign}
use Rattle.mesh_query_grammar.specs.declared.surface.signs.AddSign.TheVariants as add
use Rattle.mesh_query_grammar.specs.declared.surface.signs.MulSign.{MulSign}
use Rattle.mesh_query_grammar.specs.declared.surface.signs.MulSign.TheVariants as mul
use Rattle.mesh_query_grammar.specs.declared.surface.signs.Function.{Function}
use Rattle.mesh_query_grammar.specs.declared.surface.queries.SurfaceRel.{SurfaceRel}
use Rattle.mesh_time_days.specs.Moments.{IsDayText}
use Rattle.mesh_query_grammar.specs.Words.{is_reserved, type_of, function_of}

-- the place of the first token's first byte, or 0 where there is none
abbrev pub place : List Token → ℕ
place [] = 0
place (k ∷ ks) = k.start

-- a token of that kind
abbrev pub Next : TokenKind → List Token → List Token → Type 0
Next kind s e = (k : Token) × (s ≡ k ∷ e) × (k.kind ≡ kind)

abbrev pub IsWord : List ℕ → List Token → List Token → Type 0
IsWord word = Next (Ident word)

abbrev pub IsSign : List ℕ → List Token → List Token → Type 0
IsSign sign = Next (Sign sign)

-- an identifier that is no word of queries
abbrev pub IsName : List ℕ → List Token → List Token → Type 0
IsName name s e = Next (Ident name) s e × (is_reserved name ≡ false)

-- a word that names a type
abbrev pub IsType : ColType → List Token → List Token → Type 0
IsType kind s e = (word : List ℕ) × Next (Ident word) s e × (type_of word ≡ Some kind)

-- a word that names a function
abbrev pub IsFunction : Function → List Token → List Token → Type 0
IsFunction f s e = (word : List ℕ) × Next (Ident word) s e × (function_of word ≡ Some f)

-- a text that is a real day
abbrev pub IsDay : ℤ → List Token → List Token → Type 0
IsDay day s e = (text : List ℕ) × Next (Text text) s e × IsDayText day text

-- how the operators are written
abbrev pub cmp_text : Cmp → List ℕ
cmp_text cmp.Eq = codes "="
cmp_text cmp.Ne = codes "<>"
cmp_text cmp.Lt = codes "<"
cmp_text cmp.Le = codes "<="
cmp_text cmp.Gt = codes ">"
cmp_text cmp.Ge = codes ">="

abbrev pub add_text : AddSign → List ℕ
add_text add.Plus = codes "+"
add_text add.Minus = codes "-"

abbrev pub mul_text : MulSign → List ℕ
mul_text mul.Times = codes "*"
mul_text mul.Over = codes "/"
mul_text mul.Modulo = codes "%"

-- another name for what stands before it, with AS or without
abbrev pub IsAlias : Option (List ℕ) → List Token → List Token → Type 0
IsAlias None s e = s ≡ e
IsAlias (Some name) s e = IsName name s e ⊎ ((m : List Token) × IsWord (codes "as") s m × IsName name m e)

-- a name of one part or two
abbrev pub IsQualified : Option (List ℕ) → List ℕ → List Token → List Token → Type 0
IsQualified None name s e = IsName name s e
IsQualified (Some first) name s e = (m : List Token) × (i : List Token) × IsName first s m × IsSign (codes ".") m i × IsName name i e

-- a relation's name, and another name for it if there is one
abbrev pub IsRelation : SurfaceRel → List Token → List Token → Type 0
IsRelation r s e = (r.at ≡ place s) × ((m : List Token) × IsQualified r.schema r.name s m × IsAlias r.alias m e)

-- a word that may be left out
abbrev pub IsOptional : List ℕ → List Token → List Token → Type 0
IsOptional word s e = (s ≡ e) ⊎ IsWord word s e

-- a word that stands exactly where a flag is set
abbrev pub IsFlag : List ℕ → Bool → List Token → List Token → Type 0
IsFlag word true s e = IsWord word s e
IsFlag word false s e = s ≡ e

-- a sign that may be left out
abbrev pub IsOptionalSign : List ℕ → List Token → List Token → Type 0
IsOptionalSign sign s e = (s ≡ e) ⊎ IsSign sign s e
