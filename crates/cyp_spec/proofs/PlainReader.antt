-- A plain reader of lexemes, for worked examples alone: nothing is proved of it.
use Rattle.std.specs.Prelude.{Bool, List, None, Option, Some, [], false, map, option_map, suc, true, zero, ℕ, ◌++◌, ◌∷◌}
use Rattle.cyp_lex.specs.Lexemes.{Lexeme, Name, Number, Reserved, Said, Symbol}
use Rattle.cyp_lex.specs.declared.ident.Ident.{Ident}
use Rattle.cyp_lex.specs.declared.token.Sign.{Sign}
use Rattle.cyp_lex.specs.declared.token.Sign.TheVariants.{AndAnd, AtLeast, AtMost, Bar, Comma, Equal, Greater, Implies, LeftBrace, LeftBracket, LeftParen, Less, Minus, Plus, PointsTo, RightBrace, RightBracket, RightParen, Same, Semicolon, SlashAnd, Subset, TwoPluses, TwoStars, Unequal}
use Rattle.cyp_lex.specs.declared.token.Word.TheVariants.{Emp, In, Int, Loc, Not, Predicate, Set, True, Void}
use Rattle.cyp_text.specs.LitTrees.{Comparing, Inside, LitTree, Negation, SameSets, SubSets}
use Rattle.cyp_text.specs.declared.tree.ArgTree.{ArgTree}
use Rattle.cyp_text.specs.declared.tree.ArgTree.TheVariants.{BracesArg, TermArg, UnionArg}
use Rattle.cyp_text.specs.declared.tree.BodyTree.{BodyTree}
use Rattle.cyp_text.specs.declared.tree.ChunkTree.{ChunkTree}
use Rattle.cyp_text.specs.declared.tree.ChunkTree.TheVariants.{BlockOf, InstanceOf, NamedCell, TermCell}
use Rattle.cyp_text.specs.declared.tree.ClauseTree.{ClauseTree}
use Rattle.cyp_text.specs.declared.tree.Comparison.{Comparison}
use Rattle.cyp_text.specs.declared.tree.Comparison.TheVariants.{IsAbove, IsAtLeast, IsAtMost, IsBelow, IsEqual, IsUnequal}
use Rattle.cyp_text.specs.declared.tree.Conjunction.{Conjunction}
use Rattle.cyp_text.specs.declared.tree.Conjunction.TheVariants.{Ampersands, Slashes}
use Rattle.cyp_text.specs.declared.tree.IntTree.{IntTree}
use Rattle.cyp_text.specs.declared.tree.IntTree.TheVariants.{MinusNum, NameMinus, NamePlus, Named, Num, NumPlus}
use Rattle.cyp_text.specs.declared.tree.ItemTree.{ItemTree}
use Rattle.cyp_text.specs.declared.tree.ItemTree.TheVariants.{LitItem, TrueItem}
use Rattle.cyp_text.specs.declared.tree.ParamTree.{ParamTree}
use Rattle.cyp_text.specs.declared.tree.PartTree.{PartTree}
use Rattle.cyp_text.specs.declared.tree.PartTree.TheVariants.{Braces, PartName}
use Rattle.cyp_text.specs.declared.tree.PredTree.{PredTree}
use Rattle.cyp_text.specs.declared.tree.PureTree.{PureTree}
use Rattle.cyp_text.specs.declared.tree.PureTree.TheVariants.{Items, NoItems}
use Rattle.cyp_text.specs.declared.tree.SetTree.{SetTree}
use Rattle.cyp_text.specs.declared.tree.SortTree.{SortTree}
use Rattle.cyp_text.specs.declared.tree.SortTree.TheVariants.{IntSort, LocSort, SetSort}
use Rattle.cyp_text.specs.declared.tree.TextTree.{TextTree}

abbrev pub Toks : Type 0
Toks = List (Said × ℕ)

abbrev pub P : Type 0 → Type 0
P A = Option (A × Toks)

abbrev id : List ℕ → ℕ → Ident
id t p = record { text = t; place = p }

abbrev p_int : Toks → P IntTree
p_int ((Name i, p) ∷ (Symbol Plus, q) ∷ (Number n, r) ∷ ts) = Some (NamePlus (id i p) n, ts)
p_int ((Name i, p) ∷ (Symbol Minus, q) ∷ (Number n, r) ∷ ts) = Some (NameMinus (id i p) n, ts)
p_int ((Number n, p) ∷ (Symbol Plus, q) ∷ (Name i, r) ∷ ts) = Some (NumPlus p n (id i r), ts)
p_int ((Symbol Minus, p) ∷ (Number n, q) ∷ ts) = Some (MinusNum p n, ts)
p_int ((Name i, p) ∷ ts) = Some (Named (id i p), ts)
p_int ((Number n, p) ∷ ts) = Some (Num p n, ts)
p_int ts = None

abbrev need : Sign → Toks → Option Toks
need s [] = None
need s (t ∷ ts) = of s t.0 ts
  where
    of : Sign → Said → Toks → Option Toks
    of PointsTo (Symbol PointsTo) r = Some r
    of Implies (Symbol Implies) r = Some r
    of LeftParen (Symbol LeftParen) r = Some r
    of RightParen (Symbol RightParen) r = Some r
    of LeftBrace (Symbol LeftBrace) r = Some r
    of RightBrace (Symbol RightBrace) r = Some r
    of RightBracket (Symbol RightBracket) r = Some r
    of Comma (Symbol Comma) r = Some r
    of TwoPluses (Symbol TwoPluses) r = Some r
    of TwoStars (Symbol TwoStars) r = Some r
    of Semicolon (Symbol Semicolon) r = Some r
    of s k r = None

-- one or more with a symbol between each two
abbrev p_some : {A : Type 0} → ℕ → Sign → (Toks → P A) → Toks → P (List A)
p_some zero s p ts = None
p_some (suc k) s p ts = elim (p ts) [
  | None ↦ None
  | Some r ↦ elim (need s r.1) [
    | None ↦ Some (r.0 ∷ [], r.1)
    | Some us ↦ option_map (λ q. (r.0 ∷ q.0, q.1)) (p_some k s p us)
  ]
]

-- none or more up to the closing symbol
abbrev p_list : {A : Type 0} → Sign → (Toks → P A) → Toks → P (List A)
p_list close p ts = elim (need close ts) [
  | Some us ↦ Some ([], us)
  | None ↦ elim (p_some 100 Comma p ts) [ None ↦ None | Some r ↦ option_map (λ us. (r.0, us)) (need close r.1) ]
]

abbrev p_part : Toks → P PartTree
p_part ((Name i, p) ∷ ts) = Some (PartName (id i p), ts)
p_part ((Symbol LeftBrace, p) ∷ ts) = option_map (λ r. (Braces p r.0, r.1)) (p_list RightBrace p_int ts)
p_part ts = None

abbrev set_of : List PartTree → Option SetTree
set_of [] = None
set_of (p ∷ ps) = Some (record { first = p; others = ps })

abbrev p_set : Toks → P SetTree
p_set ts = elim (p_some 100 TwoPluses p_part ts) [ None ↦ None | Some r ↦ option_map (λ u. (u, r.1)) (set_of r.0) ]

abbrev comparison : Toks → P Comparison
comparison ((Symbol Equal, p) ∷ ts) = Some (IsEqual, ts)
comparison ((Symbol Unequal, p) ∷ ts) = Some (IsUnequal, ts)
comparison ((Symbol AtMost, p) ∷ ts) = Some (IsAtMost, ts)
comparison ((Symbol Less, p) ∷ ts) = Some (IsBelow, ts)
comparison ((Symbol AtLeast, p) ∷ ts) = Some (IsAtLeast, ts)
comparison ((Symbol Greater, p) ∷ ts) = Some (IsAbove, ts)
comparison ts = None

abbrev after_set : SetTree → Toks → P LitTree
after_set u ((Symbol Same, p) ∷ ts) = option_map (λ r. (SameSets u r.0, r.1)) (p_set ts)
after_set u ((Symbol Subset, p) ∷ ts) = option_map (λ r. (SubSets u r.0, r.1)) (p_set ts)
after_set u ts = None

abbrev p_set_lit : Toks → P LitTree
p_set_lit ts = elim (p_set ts) [ None ↦ None | Some r ↦ after_set r.0 r.1 ]

abbrev after_int : IntTree → Toks → Toks → P LitTree
after_int a ((Reserved In, p) ∷ ts) all = option_map (λ r. (Inside a r.0, r.1)) (p_set ts)
after_int a ts all = elim (comparison ts) [
  | Some c ↦ option_map (λ r. (Comparing a c.0 r.0, r.1)) (p_int c.1)
  | None ↦ p_set_lit all
]

abbrev p_plain_lit : Toks → P LitTree
p_plain_lit ts = elim (p_int ts) [ None ↦ p_set_lit ts | Some r ↦ after_int r.0 r.1 ts ]

abbrev p_lit : ℕ → Toks → P LitTree
p_lit zero ts = None
p_lit (suc k) ((Reserved Not, p) ∷ (Symbol LeftParen, q) ∷ ts) =
    elim (p_lit k ts) [ None ↦ None | Some r ↦ option_map (λ us. (Negation p r.0, us)) (need RightParen r.1) ]
p_lit (suc k) ts = p_plain_lit ts

abbrev p_item : Toks → P ItemTree
p_item ((Reserved True, p) ∷ ts) = Some (TrueItem, ts)
p_item ts = option_map (λ r. (LitItem r.0, r.1)) (p_lit 10 ts)

abbrev p_later : ℕ → Toks → P (List (Conjunction × ItemTree))
p_later zero ts = None
p_later (suc k) ((Symbol Semicolon, p) ∷ ts) = Some ([], ts)
p_later (suc k) ((Symbol SlashAnd, p) ∷ ts) = elim (p_item ts) [ None ↦ None | Some r ↦ option_map (λ q. ((Slashes, r.0) ∷ q.0, q.1)) (p_later k r.1) ]
p_later (suc k) ((Symbol AndAnd, p) ∷ ts) = elim (p_item ts) [ None ↦ None | Some r ↦ option_map (λ q. ((Ampersands, r.0) ∷ q.0, q.1)) (p_later k r.1) ]
p_later (suc k) ts = None

-- the items, or none where a heap follows at once
abbrev p_items : Toks → P PureTree
p_items ts = elim (p_item ts) [
  | None ↦ Some (NoItems, ts)
  | Some r ↦ option_map (λ q. (Items r.0 q.0, q.1)) (p_later 100 r.1)
]

abbrev ends_arg : Toks → Bool
ends_arg ((Symbol Comma, p) ∷ ts) = true
ends_arg ((Symbol RightParen, p) ∷ ts) = true
ends_arg ts = false

abbrev union_arg : SetTree → ArgTree
union_arg u = of u.first u.others
  where
    of : PartTree → List PartTree → ArgTree
    of (Braces p ts) us = BracesArg p ts us
    of (PartName i) [] = TermArg (Named i)
    of (PartName i) (u ∷ us) = UnionArg i u us

abbrev p_arg : Toks → P ArgTree
p_arg ts = elim (p_int ts) [
  | None ↦ option_map (λ r. (union_arg r.0, r.1)) (p_set ts)
  | Some r ↦ elim (ends_arg r.1) [ true ↦ Some (TermArg r.0, r.1) | false ↦ option_map (λ q. (union_arg q.0, q.1)) (p_set ts) ]
]

abbrev after_paren : IntTree → Toks → P ChunkTree
after_paren a ((Symbol RightParen, p) ∷ (Symbol PointsTo, q) ∷ ts) = option_map (λ r. (TermCell a r.0, r.1)) (p_int ts)
after_paren a ts = None

abbrev after_base : IntTree → Toks → P ChunkTree
after_base a ((Symbol Comma, p) ∷ (Number n, q) ∷ (Symbol RightBracket, r) ∷ ts) = Some (BlockOf a q n, ts)
after_base a ts = None

abbrev p_chunk : Toks → P ChunkTree
p_chunk ((Name i, p) ∷ (Symbol PointsTo, q) ∷ ts) = option_map (λ r. (NamedCell (id i p) r.0, r.1)) (p_int ts)
p_chunk ((Name i, p) ∷ (Symbol LeftParen, q) ∷ ts) = option_map (λ r. (InstanceOf (id i p) r.0, r.1)) (p_list RightParen p_arg ts)
p_chunk ((Symbol LeftParen, p) ∷ ts) = elim (p_int ts) [ None ↦ None | Some r ↦ after_paren r.0 r.1 ]
p_chunk ((Symbol LeftBracket, p) ∷ ts) = elim (p_int ts) [ None ↦ None | Some r ↦ after_base r.0 r.1 ]
p_chunk ts = None

abbrev p_heap : Toks → P (List ChunkTree)
p_heap ((Reserved Emp, p) ∷ ts) = Some ([], ts)
p_heap ts = p_some 100 TwoStars p_chunk ts

abbrev p_body : Toks → P BodyTree
p_body ts = elim (need LeftBrace ts) [
  | None ↦ None
  | Some us ↦ elim (p_items us) [
    | None ↦ None
    | Some r ↦ elim (p_heap r.1) [
      | None ↦ None
      | Some q ↦ option_map (λ vs. (record { pure = r.0; chunks = q.0 }, vs)) (need RightBrace q.1)
    ]
  ]
]

abbrev param : SortTree → ℕ → List ℕ → ℕ → ParamTree
param s p i q = record { sort = s; place = p; name = id i q }

abbrev p_param : Toks → P ParamTree
p_param ((Reserved Loc, p) ∷ (Name i, q) ∷ ts) = Some (param LocSort p i q, ts)
p_param ((Reserved Int, p) ∷ (Name i, q) ∷ ts) = Some (param IntSort p i q, ts)
p_param ((Reserved Set, p) ∷ (Name i, q) ∷ ts) = Some (param SetSort p i q, ts)
p_param ts = None

abbrev p_clauses : ℕ → Toks → P (List ClauseTree)
p_clauses zero ts = None
p_clauses (suc k) ((Symbol RightBrace, p) ∷ ts) = Some ([], ts)
p_clauses (suc k) ((Symbol Bar, p) ∷ ts) = elim (p_lit 10 ts) [
  | None ↦ None
  | Some g ↦ elim (need Implies g.1) [
    | None ↦ None
    | Some us ↦ elim (p_body us) [
      | None ↦ None
      | Some b ↦ option_map (λ q. (record { place = p; guard = g.0; body = b.0 } ∷ q.0, q.1)) (p_clauses k b.1)
    ]
  ]
]
p_clauses (suc k) ts = None

abbrev pred_tree : Ident → List ParamTree → List ClauseTree → Option PredTree
pred_tree i ps [] = None
pred_tree i ps (c ∷ cs) = Some (record { name = i; params = ps; first = c; others = cs })

abbrev p_pred : Ident → Toks → P PredTree
p_pred i ts = elim (p_list RightParen p_param ts) [
  | None ↦ None
  | Some ps ↦ elim (need LeftBrace ps.1) [
    | None ↦ None
    | Some us ↦ elim (p_clauses 100 us) [ None ↦ None | Some cs ↦ option_map (λ q. (q, cs.1)) (pred_tree i ps.0 cs.0) ]
  ]
]

abbrev p_proc : List PredTree → Ident → Toks → Option TextTree
p_proc qs i ts = elim (p_list RightParen p_param ts) [
  | None ↦ None
  | Some ps ↦ elim (p_body ps.1) [
    | None ↦ None
    | Some a ↦ elim (p_body a.1) [
      | None ↦ None
      | Some b ↦ Some (record { preds = qs; name = i; params = ps.0; pre = a.0; post = b.0 })
    ]
  ]
]

abbrev p_text : ℕ → List PredTree → Toks → Option TextTree
p_text zero qs ts = None
p_text (suc k) qs ((Reserved Predicate, p) ∷ (Name i, q) ∷ (Symbol LeftParen, r) ∷ ts) =
    elim (p_pred (id i q) ts) [ None ↦ None | Some a ↦ p_text k (qs ++ a.0 ∷ []) a.1 ]
p_text (suc k) qs ((Reserved Void, p) ∷ (Name i, q) ∷ (Symbol LeftParen, r) ∷ ts) = p_proc qs (id i q) ts
p_text (suc k) qs ts = None

abbrev pub parsed : List Lexeme → Option TextTree
parsed ls = p_text 20 [] (map (λ (l : Lexeme). (l.said, l.place)) ls)
