-- The numbers of a tree that tokens of specifications spell are small.
use Rattle.std.proofs.Common.{List, [], inl, inr, refl, subst, sym, ◌++◌, ◌∷◌}
use Rattle.std.specs.List.{All}
use Rattle.std.proofs.lemmas.List.Elements.{All-nil}
use Rattle.cyp_lex.specs.Lexemes.{Number, Reserved, Symbol}
use Rattle.cyp_lex.specs.Spelling.{Any, At, Mark, all_spelling, ident, separated, sign, word}
use Rattle.cyp_lex.specs.declared.token.Sign.TheVariants.{Bar, Comma, Implies, LeftBrace, LeftParen, RightBrace, RightParen, Same as SameSign, Semicolon, Subset, TwoPluses, TwoStars}
use Rattle.cyp_lex.specs.declared.token.Word.TheVariants.{In, Not, Predicate, Void}
use Rattle.cyp_spec.specs.Small.{ArgSmall, BodySmall, ChunkSmall, ClauseSmall, IntSmall, ItemSmall, LitSmall, PartSmall, PredSmall, PureSmall, SetSmall, TextSmall}
use Rattle.cyp_reading.proofs.Alls.{all_of}
use Rattle.cyp_term.proofs.Lists.{Among}
use Rattle.cyp_text.specs.Grammar.{arg_spelling, body_spelling, chunk_spelling, clause_spelling, comparison_sign, conjunction_sign, heap_spelling, in_braces, int_spelling, item_spelling, later_item, lit_spelling, params_spelling, part_spelling, parts_spelling, pred_spelling, pure_spelling, set_spelling, text_spelling}
use Rattle.cyp_text.specs.LitTrees.{Comparing, Inside, LitTree, Negation, SameSets, SubSets}
use Rattle.cyp_names.specs.NameFaults.{clauses}
use Rattle.cyp_text.specs.declared.tree.ArgTree.{ArgTree}
use Rattle.cyp_text.specs.declared.tree.ArgTree.TheVariants.{BracesArg, TermArg, UnionArg}
use Rattle.cyp_text.specs.declared.tree.BodyTree.{BodyTree}
use Rattle.cyp_text.specs.declared.tree.ChunkTree.{ChunkTree}
use Rattle.cyp_text.specs.declared.tree.ChunkTree.TheVariants.{BlockOf, InstanceOf, NamedCell, TermCell}
use Rattle.cyp_text.specs.declared.tree.ClauseTree.{ClauseTree}
use Rattle.cyp_text.specs.declared.tree.Conjunction.{Conjunction}
use Rattle.cyp_text.specs.declared.tree.IntTree.{IntTree}
use Rattle.cyp_text.specs.declared.tree.IntTree.TheVariants.{MinusNum, NameMinus, NamePlus, Named, Num, NumPlus}
use Rattle.cyp_text.specs.declared.tree.ItemTree.{ItemTree}
use Rattle.cyp_text.specs.declared.tree.ItemTree.TheVariants.{LitItem, TrueItem}
use Rattle.cyp_text.specs.declared.tree.PartTree.{PartTree}
use Rattle.cyp_text.specs.declared.tree.PartTree.TheVariants.{Braces, PartName}
use Rattle.cyp_text.specs.declared.tree.PredTree.{PredTree}
use Rattle.cyp_text.specs.declared.tree.PureTree.{PureTree}
use Rattle.cyp_text.specs.declared.tree.PureTree.TheVariants.{Items, NoItems}
use Rattle.cyp_text.specs.declared.tree.SetTree.{SetTree}
use Rattle.cyp_text.specs.declared.tree.TextTree.{TextTree}
use Rattle.cyp_spec.proofs.TokenMarks.{Marks, each_all, each_list, each_separated, marks_left, marks_rest, marks_right, number_small, block_at, cell_at, inst_args, named_cell}

int_small : (t : IntTree) → Marks (int_spelling t) → IntSmall t
int_small (Num p n) h = number_small n (h (At (Number n) p) (inl refl))
int_small (MinusNum p n) h = number_small n (h (Any (Number n)) (inr (inl refl)))
int_small (Named i) h = tt
int_small (NamePlus i n) h = number_small n (h (Any (Number n)) (inr (inr (inl refl))))
int_small (NameMinus i n) h = number_small n (h (Any (Number n)) (inr (inr (inl refl))))
int_small (NumPlus p n i) h = number_small n (h (At (Number n) p) (inl refl))

part_small : (w : PartTree) → Marks (part_spelling w) → PartSmall w
part_small (PartName i) h = tt
part_small (Braces p ts) h =
    let inner : Marks (separated (Symbol Comma) int_spelling ts) = marks_left (separated (Symbol Comma) int_spelling ts) (sign RightBrace ∷ [])
    (marks_rest (At (Symbol LeftBrace) p) (separated (Symbol Comma) int_spelling ts ++ sign RightBrace ∷ []) h) in
    all_of IntSmall ts (λ t m. int_small t (each_separated (Symbol Comma) int_spelling ts inner t m))

-- the first part and the others
parts_small : (u : PartTree) (us : List PartTree) → Marks (parts_spelling u us) → PartSmall u × All PartSmall us
parts_small u us h = (
  part_small u (each_list (Symbol TwoPluses) part_spelling u us h u (inl refl)),
  all_of PartSmall us (λ w m. part_small w (each_list (Symbol TwoPluses) part_spelling u us h w (inr m))),
)

set_small : (u : SetTree) → Marks (set_spelling u) → SetSmall u
set_small u h = parts_small u.first u.others h

lit_small : (l : LitTree) → Marks (lit_spelling l) → LitSmall l
lit_small (Comparing a c b) h = (
  int_small a (marks_left (int_spelling a) (sign (comparison_sign c) ∷ int_spelling b) h),
  int_small b (marks_rest (sign (comparison_sign c)) (int_spelling b) (marks_right (int_spelling a) (sign (comparison_sign c) ∷ int_spelling b) h)),
)
lit_small (SameSets a b) h = (
  set_small a (marks_left (set_spelling a) (sign SameSign ∷ set_spelling b) h),
  set_small b (marks_rest (sign SameSign) (set_spelling b) (marks_right (set_spelling a) (sign SameSign ∷ set_spelling b) h)),
)
lit_small (SubSets a b) h = (
  set_small a (marks_left (set_spelling a) (sign Subset ∷ set_spelling b) h),
  set_small b (marks_rest (sign Subset) (set_spelling b) (marks_right (set_spelling a) (sign Subset ∷ set_spelling b) h)),
)
lit_small (Inside a b) h = (
  int_small a (marks_left (int_spelling a) (word In ∷ set_spelling b) h),
  set_small b (marks_rest (word In) (set_spelling b) (marks_right (int_spelling a) (word In ∷ set_spelling b) h)),
)
lit_small (Negation p l) h =
    lit_small l (marks_left (lit_spelling l) (sign RightParen ∷ []) (marks_rest (sign LeftParen) (lit_spelling l ++ sign RightParen ∷ []) (marks_rest (At (Reserved Not) p) (sign LeftParen ∷ (lit_spelling l ++ sign RightParen ∷ [])) h)))

arg_small : (x : ArgTree) → Marks (arg_spelling x) → ArgSmall x
arg_small (TermArg t) h = int_small t h
arg_small (BracesArg p ts us) h = parts_small (Braces p ts) us h
arg_small (UnionArg i u us) h = parts_small u us (marks_rest (sign TwoPluses) (parts_spelling u us) (marks_rest (ident i) (sign TwoPluses ∷ parts_spelling u us) h))

chunk_small : (c : ChunkTree) → Marks (chunk_spelling c) → ChunkSmall c
chunk_small (NamedCell i t) h = int_small t (named_cell i t h)
chunk_small (TermCell a t) h = (int_small a (cell_at a t h).0, int_small t (cell_at a t h).1)
chunk_small (BlockOf a p n) h = int_small a (block_at a p n h).0
chunk_small (InstanceOf i xs) h = all_of ArgSmall xs (λ x m. arg_small x (inst_args i xs h x m))

item_small : (i : ItemTree) → Marks (item_spelling i) → ItemSmall i
item_small TrueItem h = tt
item_small (LitItem l) h = lit_small l h

pure_small : (p : PureTree) → Marks (pure_spelling p) → PureSmall p
pure_small NoItems h = tt
pure_small (Items i is) h = (
  item_small i (marks_left (item_spelling i) (all_spelling later_item is ++ sign Semicolon ∷ []) h),
  all_of (λ (p : Conjunction × ItemTree). ItemSmall p.1) is (λ p m. item_small p.1 (marks_rest (sign (conjunction_sign p.0)) (item_spelling p.1) (each_all later_item is others p m))),
)
  where
    others : Marks (all_spelling later_item is)
    others = marks_left (all_spelling later_item is) (sign Semicolon ∷ []) (marks_right (item_spelling i) (all_spelling later_item is ++ sign Semicolon ∷ []) h)

heap_small : (cs : List ChunkTree) → Marks (heap_spelling cs) → All ChunkSmall cs
heap_small [] h = All-nil ChunkSmall
heap_small (c ∷ cs) h = all_of ChunkSmall (c ∷ cs) (λ d m. chunk_small d (each_list (Symbol TwoStars) chunk_spelling c cs h d m))

body_small : (b : BodyTree) → Marks (body_spelling b) → BodySmall b
body_small b h = record {
  pure = pure_small b.pure (marks_left (pure_spelling b.pure) (heap_spelling b.chunks) h);
  chunks = heap_small b.chunks (marks_right (pure_spelling b.pure) (heap_spelling b.chunks) h);
}

braced_small : (b : BodyTree) → Marks (in_braces b) → BodySmall b
braced_small b h = body_small b (marks_left (body_spelling b) (sign RightBrace ∷ []) (marks_rest (sign LeftBrace) (body_spelling b ++ sign RightBrace ∷ []) h))

clause_small : (c : ClauseTree) → Marks (clause_spelling c) → ClauseSmall c
clause_small c h =
    let inner : Marks (lit_spelling c.guard ++ (sign Implies ∷ in_braces c.body)) = marks_rest (At (Symbol Bar) c.place) (lit_spelling c.guard ++ (sign Implies ∷ in_braces c.body)) h in
    record {
      guard = lit_small c.guard (marks_left (lit_spelling c.guard) (sign Implies ∷ in_braces c.body) inner);
      body = braced_small c.body (marks_rest (sign Implies) (in_braces c.body) (marks_right (lit_spelling c.guard) (sign Implies ∷ in_braces c.body) inner));
    }

pred_small : (q : PredTree) → Marks (pred_spelling q) → PredSmall q
pred_small q h = (each q.first (inl refl), all_of ClauseSmall q.others (λ c m. each c (inr m)))
  where
    behind : Marks (clause_spelling q.first ++ (all_spelling clause_spelling q.others ++ sign RightBrace ∷ []))
    behind =
        marks_rest (sign LeftBrace) (clause_spelling q.first ++ (all_spelling clause_spelling q.others ++ sign RightBrace ∷ []))
        (marks_right (params_spelling q.params) (sign LeftBrace ∷ (clause_spelling q.first ++ (all_spelling clause_spelling q.others ++ sign RightBrace ∷ [])))
        (marks_rest (ident q.name) (params_spelling q.params ++ (sign LeftBrace ∷ (clause_spelling q.first ++ (all_spelling clause_spelling q.others ++ sign RightBrace ∷ []))))
        (marks_rest (word Predicate) (ident q.name ∷ (params_spelling q.params ++ (sign LeftBrace ∷ (clause_spelling q.first ++ (all_spelling clause_spelling q.others ++ sign RightBrace ∷ []))))) h)))

    each : (c : ClauseTree) → Among c (clauses q) → ClauseSmall c
    each c (inl e) = subst (λ (d : ClauseTree). ClauseSmall d) (sym e) (clause_small q.first (marks_left (clause_spelling q.first) (all_spelling clause_spelling q.others ++ sign RightBrace ∷ []) behind))
    each c (inr m) = clause_small c (each_all clause_spelling q.others
        (marks_left (all_spelling clause_spelling q.others) (sign RightBrace ∷ []) (marks_right (clause_spelling q.first) (all_spelling clause_spelling q.others ++ sign RightBrace ∷ []) behind)) c m)

-- the procedure
abbrev proc_spelling : TextTree → List Mark
proc_spelling t = word Void ∷ ident t.name ∷ (params_spelling t.params ++ (in_braces t.pre ++ in_braces t.post))

-- a text of tokens has small numbers
pub text_small : (t : TextTree) → Marks (text_spelling t) → TextSmall t
text_small t h = record {
  preds = all_of PredSmall t.preds (λ q m. pred_small q (each_all pred_spelling t.preds (marks_left (all_spelling pred_spelling t.preds) (proc_spelling t) h) q m));
  pre = braced_small t.pre (marks_left (in_braces t.pre) (in_braces t.post) bodies);
  post = braced_small t.post (marks_right (in_braces t.pre) (in_braces t.post) bodies);
}
  where
    bodies : Marks (in_braces t.pre ++ in_braces t.post)
    bodies =
        marks_right (params_spelling t.params) (in_braces t.pre ++ in_braces t.post)
        (marks_rest (ident t.name) (params_spelling t.params ++ (in_braces t.pre ++ in_braces t.post))
        (marks_rest (word Void) (ident t.name ∷ (params_spelling t.params ++ (in_braces t.pre ++ in_braces t.post))) (marks_right (all_spelling pred_spelling t.preds) (proc_spelling t) h)))
