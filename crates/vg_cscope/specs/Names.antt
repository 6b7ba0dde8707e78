-- Names, and the declarations that they stand for (C11 6.2.1, 6.2.3). Tags, fields and all other names are name spaces of their own.
use Rattle.std.specs.Prelude.{ℕ, ◌-◌, nat_le, List, [], ◌∷◌, length, take, drop, Bool, true, false, ◌&&◌, Option, Some, None, if◌then◌else◌}
use Rattle.std.specs.Str.{bytes_eq}
use Rattle.vg_core.specs.Syntax.{Syntax}
use Rattle.vg_core.specs.declared.tree.Name.{Name}
use Rattle.vg_core.specs.declared.tree.Node.{Node}
use Rattle.vg_core.specs.declared.tree.Kind.{Kind}
use Rattle.vg_core.specs.declared.tree.Kind.TheVariants as nodes
use Rattle.vg_cscope.specs.declared.standing.Standing.{Standing}
use Rattle.vg_cscope.specs.declared.names.Wanted.{Wanted}
use Rattle.vg_cscope.specs.declared.names.Wanted.TheVariants as wanted
use Rattle.vg_cscope.specs.Scopes.{kind_at, seen_at}

-- a text, its tree, and where each node stands
pub record Scoped : Type 0 where
  pub text : List ℕ
  pub tree : Syntax
  pub standings : List Standing

abbrev pub scoped : List ℕ → Syntax → List Standing → Scoped
scoped text tree standings = record { text = text; tree = tree; standings = standings }

-- the bytes of a name
abbrev pub spelling : List ℕ → Name → List ℕ
spelling text name = if nat_le name.from name.to && nat_le name.to (length text) then take (name.to - name.from) (drop name.from text) else []

abbrev pub is_same : List ℕ → Name → Name → Bool
is_same text a b = bytes_eq (spelling text a) (spelling text b)

-- the name that a node declares, and with tags and fields it is another name space
abbrev pub ordinary_name : Kind → Option Name
ordinary_name (nodes.ExternHandle handle name) = Some name
ordinary_name (nodes.ExternNumber of name) = Some name
ordinary_name (nodes.Function is_static is_inline answer name params body) = Some name
ordinary_name (nodes.Param base pointer name) = Some name
ordinary_name (nodes.Declare base pointer name count value) = Some name
ordinary_name (nodes.For of counter start tested bound stepped step body) = Some counter
ordinary_name _ = None

abbrev pub tag_name : Kind → Option Name
tag_name (nodes.Struct tag fields attribute) = Some tag
tag_name _ = None

abbrev pub field_name : Kind → Option Name
field_name (nodes.Field base name count) = Some name
field_name _ = None

abbrev pub is_function : Kind → Bool
is_function (nodes.Function is_static is_inline answer name params body) = true
is_function _ = false

abbrev pub is_named : List ℕ → Name → Option Name → Bool
is_named text name None = false
is_named text name (Some other) = is_same text name other

-- whether a declaration is what is looked for
abbrev pub is_wanted : List ℕ → Wanted → Kind → Bool
is_wanted text (wanted.Ordinary name) kind = is_named text name (ordinary_name kind)
is_wanted text (wanted.Tag name) kind = is_named text name (tag_name kind)
is_wanted text (wanted.Field name) kind = is_named text name (field_name kind)
is_wanted text wanted.Function kind = is_function kind

-- the last of the declarations seen that is what is looked for. Each sees the one before it, and there are no more of them than nodes
abbrev pub looked_up : Scoped → Wanted → List Node → Option ℕ → Option ℕ
looked_up s what [] seen = None
looked_up s what (node ∷ more) None = None
looked_up s what (node ∷ more) (Some d) = if is_wanted s.text what (kind_at s.tree d) then Some d else looked_up s what more (seen_at s.standings d)

abbrev pub found : Scoped → Wanted → ℕ → Option ℕ
found s what n = looked_up s what s.tree.nodes (seen_at s.standings n)
