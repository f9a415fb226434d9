-- The tree of the prelude's text, written out, a class of the prelude at a time.
use Rattle.std.specs.Prelude.{pos, true, false, [], ◌∷◌, codes}
use Rattle.ruby_tree.specs.Tree.{Tree, array, assign, assign_index, block_param, body, both, class, code_piece, constant_path, either, false_value, hash, if_else, instance, integer, joined, local, method, more, nil_value, no_more, no_pair, no_param, no_piece, optional, plain_piece, required, rest_param, return_with, self_value, send, statements, super, text, to_instance, to_local, true_value, while_loop, with, without, yield}
use Rattle.ruby_meaning.specs.Node.{node}

-- `class Object`, line 1
abbrev object_tree : Tree
object_tree = node 1 1 0 (class without (codes "Object") (node 1 1 0 (body no_param (node 2 2 15 (statements (more (node 2 2 15 (method (codes "initialize") (node 2 2 15 (body no_param (node 0 0 0 (statements no_more)))) false)) (more (node 3 3 38 (method (codes "===") (node 3 3 38 (body (required (codes "o") no_param) (node 3 3 49 (statements (more (node 3 3 49 (send (with (node 3 3 49 self_value)) (more (node 3 3 57 (local (codes "o"))) no_more) [] without (codes "==") false without)) no_more))))) false)) (more (node 4 4 65 (method (codes "__puts") (node 4 4 65 (body (required (codes "x") (required (codes "e") no_param)) (node 4 4 81 (statements (more (node 5 5 86 (if_else (node 5 5 89 (send (with (node 5 5 89 (local (codes "x")))) (more (node 5 5 97 (constant_path without false ((codes "Array") ∷ []))) no_more) [] without (codes "is_a?") false without)) (node 6 6 110 (statements (more (node 6 6 110 (if_else (node 6 6 129 (send (with (node 6 6 129 (local (codes "x")))) no_more [] without (codes "empty?") false without)) (node 6 6 110 (statements (more (node 6 6 110 (send without (more (node 6 6 117 (text (codes "\n"))) (more (node 6 6 123 (local (codes "e"))) no_more)) [] without (codes "__emit") false without)) no_more))) without)) (more (node 7 7 144 (send (with (node 7 7 144 (local (codes "x")))) no_more [] without (codes "each") false (with (node 7 7 151 (body (required (codes "y") no_param) (node 7 7 157 (statements (more (node 7 7 157 (send without (more (node 7 7 164 (local (codes "y"))) (more (node 7 7 167 (local (codes "e"))) no_more)) [] without (codes "__puts") false without)) no_more)))))))) no_more)))) (with (node 8 8 180 (statements (more (node 9 9 187 (assign (node 9 9 191 (joined (code_piece (node 9 9 194 (statements (more (node 9 9 194 (local (codes "x"))) no_more))) no_piece))) (to_local (codes "s")))) (more (node 10 10 204 (send without (more (node 10 10 211 (local (codes "s"))) (more (node 10 10 214 (local (codes "e"))) no_more)) [] without (codes "__emit") false without)) (more (node 11 11 223 (if_else (node 11 11 246 (send (with (node 11 11 246 (local (codes "s")))) (more (node 11 11 258 (text (codes "\n"))) no_more) [] without (codes "end_with?") false without)) (node 0 0 0 (statements no_more)) (with (node 11 11 223 (statements (more (node 11 11 223 (send without (more (node 11 11 230 (text (codes "\n"))) (more (node 11 11 236 (local (codes "e"))) no_more)) [] without (codes "__emit") false without)) no_more)))))) no_more)))))))) no_more))))) false)) (more (node 14 14 280 (method (codes "puts") (node 14 14 280 (body (rest_param (codes "a") no_param) (node 14 14 293 (statements (more (node 14 14 293 (if_else (node 14 14 316 (send (with (node 14 14 316 (local (codes "a")))) no_more [] without (codes "empty?") false without)) (node 14 14 293 (statements (more (node 14 14 293 (send without (more (node 14 14 300 (text (codes "\n"))) (more (node 14 14 306 false_value) no_more)) [] without (codes "__emit") false without)) no_more))) without)) (more (node 14 14 326 (send (with (node 14 14 326 (local (codes "a")))) no_more [] without (codes "each") false (with (node 14 14 333 (body (required (codes "x") no_param) (node 14 14 339 (statements (more (node 14 14 339 (send without (more (node 14 14 346 (local (codes "x"))) (more (node 14 14 349 false_value) no_more)) [] without (codes "__puts") false without)) no_more)))))))) (more (node 14 14 359 nil_value) no_more))))))) false)) (more (node 15 15 369 (method (codes "warn") (node 15 15 369 (body (rest_param (codes "a") no_param) (node 15 15 382 (statements (more (node 15 15 382 (send (with (node 15 15 382 (local (codes "a")))) no_more [] without (codes "each") false (with (node 15 15 389 (body (required (codes "x") no_param) (node 15 15 395 (statements (more (node 15 15 395 (send without (more (node 15 15 402 (local (codes "x"))) (more (node 15 15 405 true_value) no_more)) [] without (codes "__puts") false without)) no_more)))))))) (more (node 15 15 414 nil_value) no_more)))))) false)) (more (node 16 16 424 (method (codes "print") (node 16 16 424 (body (rest_param (codes "a") no_param) (node 16 16 438 (statements (more (node 16 16 438 (send (with (node 16 16 438 (local (codes "a")))) no_more [] without (codes "each") false (with (node 16 16 445 (body (required (codes "x") no_param) (node 16 16 451 (statements (more (node 16 16 451 (send without (more (node 16 16 458 (joined (code_piece (node 16 16 461 (statements (more (node 16 16 461 (local (codes "x"))) no_more))) no_piece))) (more (node 16 16 466 false_value) no_more)) [] without (codes "__emit") false without)) no_more)))))))) (more (node 16 16 476 nil_value) no_more)))))) false)) (more (node 17 17 486 (method (codes "p") (node 17 17 486 (body (rest_param (codes "a") no_param) (node 17 17 496 (statements (more (node 17 17 496 (send (with (node 17 17 496 (local (codes "a")))) no_more [] without (codes "each") false (with (node 17 17 503 (body (required (codes "x") no_param) (node 17 17 509 (statements (more (node 17 17 509 (send without (more (node 17 17 516 (joined (code_piece (node 17 17 519 (statements (more (node 17 17 519 (send (with (node 17 17 519 (local (codes "x")))) no_more [] without (codes "inspect") false without)) no_more))) (plain_piece (codes "\n") no_piece)))) (more (node 17 17 534 false_value) no_more)) [] without (codes "__emit") false without)) no_more)))))))) (more (node 17 17 544 (if_else (node 17 17 544 (send (with (node 17 17 544 (send (with (node 17 17 544 (local (codes "a")))) no_more [] without (codes "size") false without))) (more (node 17 17 553 (integer (pos 1))) no_more) [] without (codes ">") false without)) (node 17 17 557 (local (codes "a"))) (with (node 17 17 561 (send (with (node 17 17 561 (local (codes "a")))) (more (node 17 17 563 (integer (pos 0))) no_more) [] without (codes "[]") false without))))) no_more)))))) false)) (more (node 18 18 572 (method (codes "raise") (node 18 18 572 (body (rest_param (codes "a") no_param) (node 18 18 585 (statements (more (node 19 19 590 (assign (node 19 19 594 (send (with (node 19 19 594 (local (codes "a")))) (more (node 19 19 596 (integer (pos 0))) no_more) [] without (codes "[]") false without)) (to_local (codes "e")))) (more (node 20 20 603 (if_else (node 20 20 650 (send (with (node 20 20 650 (local (codes "a")))) no_more [] without (codes "empty?") false without)) (node 20 20 603 (statements (more (node 20 20 603 (assign (node 20 20 607 (send (with (node 20 20 607 (constant_path without false ((codes "RuntimeError") ∷ [])))) (more (node 20 20 624 (text (codes "unhandled exception"))) no_more) [] without (codes "new") false without)) (to_local (codes "e")))) no_more))) without)) (more (node 21 21 663 (if_else (node 21 21 690 (send (with (node 21 21 690 (local (codes "e")))) (more (node 21 21 698 (constant_path without false ((codes "String") ∷ []))) no_more) [] without (codes "is_a?") false without)) (node 21 21 663 (statements (more (node 21 21 663 (assign (node 21 21 667 (send (with (node 21 21 667 (constant_path without false ((codes "RuntimeError") ∷ [])))) (more (node 21 21 684 (local (codes "e"))) no_more) [] without (codes "new") false without)) (to_local (codes "e")))) no_more))) without)) (more (node 22 22 710 (if_else (node 22 22 750 (send (with (node 22 22 750 (local (codes "e")))) (more (node 22 22 758 (constant_path without false ((codes "Class") ∷ []))) no_more) [] without (codes "is_a?") false without)) (node 22 22 710 (statements (more (node 22 22 710 (assign (node 22 22 714 (if_else (node 22 22 714 (send (with (node 22 22 714 (send (with (node 22 22 714 (local (codes "a")))) no_more [] without (codes "size") false without))) (more (node 22 22 723 (integer (pos 1))) no_more) [] without (codes ">") false without)) (node 22 22 727 (send (with (node 22 22 727 (local (codes "e")))) (more (node 22 22 733 (send (with (node 22 22 733 (local (codes "a")))) (more (node 22 22 735 (integer (pos 1))) no_more) [] without (codes "[]") false without)) no_more) [] without (codes "new") false without)) (with (node 22 22 741 (send (with (node 22 22 741 (local (codes "e")))) no_more [] without (codes "new") false without))))) (to_local (codes "e")))) no_more))) without)) (more (node 23 23 769 (send without (more (node 23 23 777 (local (codes "e"))) no_more) [] without (codes "__throw") false without)) no_more))))))))) false)) (more (node 25 25 788 (method (codes "exit") (node 25 25 788 (body (optional (codes "n") (node 25 25 801 (integer (pos 0))) no_param) (node 25 25 803 (statements (more (node 26 26 808 (if_else (node 26 26 866 (send (with (node 26 26 866 (local (codes "n")))) (more (node 26 26 874 (constant_path without false ((codes "Integer") ∷ []))) no_more) [] without (codes "is_a?") false without)) (node 0 0 0 (statements no_more)) (with (node 26 26 808 (statements (more (node 26 26 808 (send without (more (node 26 26 814 (constant_path without false ((codes "TypeError") ∷ []))) (more (node 26 26 825 (text (codes "exit status must be an Integer"))) no_more)) [] without (codes "raise") false without)) no_more)))))) (more (node 27 27 887 (if_else (node 27 27 940 (both (node 27 27 940 (send (with (node 27 27 940 (local (codes "n")))) (more (node 27 27 945 (integer (pos 0))) no_more) [] without (codes ">=") false without)) (node 27 27 950 (send (with (node 27 27 950 (local (codes "n")))) (more (node 27 27 955 (integer (pos 199))) no_more) [] without (codes "<=") false without)))) (node 0 0 0 (statements no_more)) (with (node 27 27 887 (statements (more (node 27 27 887 (send without (more (node 27 27 893 (constant_path without false ((codes "RangeError") ∷ []))) (more (node 27 27 905 (text (codes "exit status out of range"))) no_more)) [] without (codes "raise") false without)) no_more)))))) (more (node 28 28 963 (send without (more (node 28 28 969 (send (with (node 28 28 969 (constant_path without false ((codes "SystemExit") ∷ [])))) (more (node 28 28 984 (local (codes "n"))) no_more) [] without (codes "new") false without)) no_more) [] without (codes "raise") false without)) no_more))))))) false)) (more (node 30 30 996 (method (codes "loop") (node 30 30 996 (body no_param (node 30 30 1007 (statements (more (node 30 30 1007 (while_loop (node 30 30 1019 (statements (more (node 30 30 1019 (yield no_more [])) no_more))) (node 30 30 1013 true_value) false false)) no_more))))) false)) (more (node 31 31 1036 (method (codes "proc") (node 31 31 1036 (body (block_param (codes "b") no_param) (node 31 31 1049 (statements (more (node 31 31 1049 (local (codes "b"))) no_more))))) false)) no_more))))))))))))))))

-- `class Class`, line 33
abbrev class_tree : Tree
class_tree = node 33 33 1059 (class without (codes "Class") (node 33 33 1059 (body no_param (node 34 34 1073 (statements (more (node 34 34 1073 (method (codes "new") (node 34 34 1073 (body (rest_param (codes "a") (block_param (codes "b") no_param)) (node 34 34 1089 (statements (more (node 34 34 1089 (assign (node 34 34 1093 (send without no_more [] without (codes "__allocate") true without)) (to_local (codes "o")))) (more (node 34 34 1105 (send (with (node 34 34 1105 (local (codes "o")))) (more (node 34 34 1119 (local (codes "a"))) no_more) (0 ∷ []) (with (node 34 34 1123 (local (codes "b")))) (codes "initialize") false without)) (more (node 34 34 1127 (local (codes "o"))) no_more))))))) false)) no_more))))))

-- `class Exception`, line 36
abbrev exception_tree : Tree
exception_tree = node 36 36 1137 (class without (codes "Exception") (node 36 36 1137 (body no_param (node 37 37 1155 (statements (more (node 37 37 1155 (method (codes "initialize") (node 37 37 1155 (body (optional (codes "m") (node 37 37 1174 nil_value) no_param) (node 37 37 1179 (statements (more (node 37 37 1179 (assign (node 37 37 1192 (local (codes "m"))) (to_instance (codes "@__message")))) no_more))))) false)) (more (node 38 38 1200 (method (codes "to_s") (node 38 38 1200 (body no_param (node 38 38 1211 (statements (more (node 38 38 1211 (if_else (node 38 38 1211 (send (with (node 38 38 1211 (instance (codes "@__message")))) no_more [] without (codes "nil?") false without)) (node 38 38 1229 (send (with (node 38 38 1229 (send (with (node 38 38 1229 self_value)) no_more [] without (codes "class") false without))) no_more [] without (codes "name") false without)) (with (node 38 38 1247 (joined (code_piece (node 38 38 1250 (statements (more (node 38 38 1250 (instance (codes "@__message"))) no_more))) no_piece)))))) no_more))))) false)) (more (node 39 39 1269 (method (codes "message") (node 39 39 1269 (body no_param (node 39 39 1283 (statements (more (node 39 39 1283 (send without no_more [] without (codes "to_s") true without)) no_more))))) false)) (more (node 40 40 1294 (method (codes "inspect") (node 40 40 1294 (body no_param (node 40 40 1308 (statements (more (node 40 40 1308 (joined (plain_piece (codes "#<") (code_piece (node 40 40 1313 (statements (more (node 40 40 1313 (send (with (node 40 40 1313 (send (with (node 40 40 1313 self_value)) no_more [] without (codes "class") false without))) no_more [] without (codes "name") false without)) no_more))) (plain_piece (codes ": ") (code_piece (node 40 40 1333 (statements (more (node 40 40 1333 self_value) no_more))) (plain_piece (codes ">") no_piece))))))) no_more))))) false)) no_more)))))))))

-- `class SystemExit`, line 42
abbrev systemexit_tree : Tree
systemexit_tree = node 42 42 1349 (class without (codes "SystemExit") (node 42 42 1349 (body no_param (node 43 43 1368 (statements (more (node 43 43 1368 (method (codes "initialize") (node 43 43 1368 (body (optional (codes "n") (node 43 43 1387 (integer (pos 0))) no_param) (node 43 43 1390 (statements (more (node 43 43 1390 (super (more (node 43 43 1396 (text (codes "exit"))) no_more) [] without without)) (more (node 43 43 1405 (assign (node 43 43 1417 (local (codes "n"))) (to_instance (codes "@__status")))) no_more)))))) false)) (more (node 44 44 1425 (method (codes "status") (node 44 44 1425 (body no_param (node 44 44 1438 (statements (more (node 44 44 1438 (instance (codes "@__status"))) no_more))))) false)) no_more)))))))

-- `class Proc`, line 46
abbrev proc_tree : Tree
proc_tree = node 46 46 1456 (class without (codes "Proc") (node 46 46 1456 (body no_param (node 47 47 1469 (statements (more (node 47 47 1469 (method (codes "new") (node 47 47 1469 (body (block_param (codes "b") no_param) (node 47 47 1486 (statements (more (node 47 47 1486 (local (codes "b"))) no_more))))) true)) no_more))))))

-- `class Integer`, line 49
abbrev integer_tree : Tree
integer_tree = node 49 49 1496 (class without (codes "Integer") (node 49 49 1496 (body no_param (node 50 50 1512 (statements (more (node 50 50 1512 (method (codes "times") (node 50 50 1512 (body no_param (node 50 50 1524 (statements (more (node 50 50 1524 (assign (node 50 50 1528 (integer (pos 0))) (to_local (codes "i")))) (more (node 50 50 1531 (while_loop (node 50 50 1547 (statements (more (node 50 50 1547 (yield (more (node 50 50 1553 (local (codes "i"))) no_more) [])) (more (node 50 50 1556 (assign (node 50 50 1556 (send (with (node 50 50 1556 (local (codes "i")))) (more (node 50 50 1561 (integer (pos 1))) no_more) [] without (codes "+") false without)) (to_local (codes "i")))) no_more)))) (node 50 50 1537 (send (with (node 50 50 1537 (local (codes "i")))) (more (node 50 50 1541 self_value) no_more) [] without (codes "<") false without)) false false)) (more (node 50 50 1569 self_value) no_more))))))) false)) (more (node 51 51 1580 (method (codes "upto") (node 51 51 1580 (body (required (codes "n") no_param) (node 51 51 1592 (statements (more (node 51 51 1592 (assign (node 51 51 1596 self_value) (to_local (codes "i")))) (more (node 51 51 1602 (while_loop (node 51 51 1616 (statements (more (node 51 51 1616 (yield (more (node 51 51 1622 (local (codes "i"))) no_more) [])) (more (node 51 51 1625 (assign (node 51 51 1625 (send (with (node 51 51 1625 (local (codes "i")))) (more (node 51 51 1630 (integer (pos 1))) no_more) [] without (codes "+") false without)) (to_local (codes "i")))) no_more)))) (node 51 51 1608 (send (with (node 51 51 1608 (local (codes "i")))) (more (node 51 51 1613 (local (codes "n"))) no_more) [] without (codes "<=") false without)) false false)) (more (node 51 51 1638 self_value) no_more))))))) false)) no_more)))))))

-- `class Array`, line 53
abbrev array_tree : Tree
array_tree = node 53 53 1651 (class without (codes "Array") (node 53 53 1651 (body no_param (node 54 54 1665 (statements (more (node 54 54 1665 (method (codes "new") (node 54 54 1665 (body (optional (codes "n") (node 54 54 1682 (integer (pos 0))) (optional (codes "v") (node 54 54 1689 nil_value) no_param)) (node 54 54 1694 (statements (more (node 54 54 1694 (assign (node 54 54 1698 (array no_more [])) (to_local (codes "r")))) (more (node 54 54 1702 (send (with (node 54 54 1702 (local (codes "n")))) no_more [] without (codes "times") false (with (node 54 54 1710 (body no_param (node 54 54 1712 (statements (more (node 54 54 1712 (send (with (node 54 54 1712 (local (codes "r")))) (more (node 54 54 1717 (local (codes "v"))) no_more) [] without (codes "<<") false without)) no_more)))))))) (more (node 54 54 1722 (local (codes "r"))) no_more))))))) true)) (more (node 55 55 1730 (method (codes "each") (node 55 55 1730 (body no_param (node 55 55 1741 (statements (more (node 55 55 1741 (assign (node 55 55 1745 (integer (pos 0))) (to_local (codes "i")))) (more (node 55 55 1748 (while_loop (node 55 55 1764 (statements (more (node 55 55 1764 (yield (more (node 55 55 1770 (send (with (node 55 55 1770 self_value)) (more (node 55 55 1775 (local (codes "i"))) no_more) [] without (codes "[]") false without)) no_more) [])) (more (node 55 55 1779 (assign (node 55 55 1779 (send (with (node 55 55 1779 (local (codes "i")))) (more (node 55 55 1784 (integer (pos 1))) no_more) [] without (codes "+") false without)) (to_local (codes "i")))) no_more)))) (node 55 55 1754 (send (with (node 55 55 1754 (local (codes "i")))) (more (node 55 55 1758 (send without no_more [] without (codes "size") true without)) no_more) [] without (codes "<") false without)) false false)) (more (node 55 55 1792 self_value) no_more))))))) false)) (more (node 56 56 1803 (method (codes "each_with_index") (node 56 56 1803 (body no_param (node 56 56 1825 (statements (more (node 56 56 1825 (assign (node 56 56 1829 (integer (pos 0))) (to_local (codes "i")))) (more (node 56 56 1832 (while_loop (node 56 56 1848 (statements (more (node 56 56 1848 (yield (more (node 56 56 1854 (send (with (node 56 56 1854 self_value)) (more (node 56 56 1859 (local (codes "i"))) no_more) [] without (codes "[]") false without)) (more (node 56 56 1863 (local (codes "i"))) no_more)) [])) (more (node 56 56 1866 (assign (node 56 56 1866 (send (with (node 56 56 1866 (local (codes "i")))) (more (node 56 56 1871 (integer (pos 1))) no_more) [] without (codes "+") false without)) (to_local (codes "i")))) no_more)))) (node 56 56 1838 (send (with (node 56 56 1838 (local (codes "i")))) (more (node 56 56 1842 (send without no_more [] without (codes "size") true without)) no_more) [] without (codes "<") false without)) false false)) (more (node 56 56 1879 self_value) no_more))))))) false)) (more (node 57 57 1890 (method (codes "map") (node 57 57 1890 (body no_param (node 57 57 1900 (statements (more (node 57 57 1900 (assign (node 57 57 1904 (array no_more [])) (to_local (codes "r")))) (more (node 57 57 1908 (send without no_more [] without (codes "each") false (with (node 57 57 1913 (body (required (codes "x") no_param) (node 57 57 1919 (statements (more (node 57 57 1919 (send (with (node 57 57 1919 (local (codes "r")))) (more (node 57 57 1924 (yield (more (node 57 57 1930 (local (codes "x"))) no_more) [])) no_more) [] without (codes "<<") false without)) no_more)))))))) (more (node 57 57 1936 (local (codes "r"))) no_more))))))) false)) (more (node 58 58 1944 (method (codes "select") (node 58 58 1944 (body no_param (node 58 58 1957 (statements (more (node 58 58 1957 (assign (node 58 58 1961 (array no_more [])) (to_local (codes "r")))) (more (node 58 58 1965 (send without no_more [] without (codes "each") false (with (node 58 58 1970 (body (required (codes "x") no_param) (node 58 58 1976 (statements (more (node 58 58 1976 (if_else (node 58 58 1986 (yield (more (node 58 58 1992 (local (codes "x"))) no_more) [])) (node 58 58 1976 (statements (more (node 58 58 1976 (send (with (node 58 58 1976 (local (codes "r")))) (more (node 58 58 1981 (local (codes "x"))) no_more) [] without (codes "<<") false without)) no_more))) without)) no_more)))))))) (more (node 58 58 1998 (local (codes "r"))) no_more))))))) false)) (more (node 59 59 2006 (method (codes "reject") (node 59 59 2006 (body no_param (node 59 59 2019 (statements (more (node 59 59 2019 (assign (node 59 59 2023 (array no_more [])) (to_local (codes "r")))) (more (node 59 59 2027 (send without no_more [] without (codes "each") false (with (node 59 59 2032 (body (required (codes "x") no_param) (node 59 59 2038 (statements (more (node 59 59 2038 (if_else (node 59 59 2052 (yield (more (node 59 59 2058 (local (codes "x"))) no_more) [])) (node 0 0 0 (statements no_more)) (with (node 59 59 2038 (statements (more (node 59 59 2038 (send (with (node 59 59 2038 (local (codes "r")))) (more (node 59 59 2043 (local (codes "x"))) no_more) [] without (codes "<<") false without)) no_more)))))) no_more)))))))) (more (node 59 59 2064 (local (codes "r"))) no_more))))))) false)) (more (node 60 60 2072 (method (codes "find") (node 60 60 2072 (body no_param (node 60 60 2083 (statements (more (node 60 60 2083 (send without no_more [] without (codes "each") false (with (node 60 60 2088 (body (required (codes "x") no_param) (node 60 60 2094 (statements (more (node 60 60 2094 (if_else (node 60 60 2106 (yield (more (node 60 60 2112 (local (codes "x"))) no_more) [])) (node 60 60 2094 (statements (more (node 60 60 2094 (return_with (more (node 60 60 2101 (local (codes "x"))) no_more))) no_more))) without)) no_more)))))))) (more (node 60 60 2118 nil_value) no_more)))))) false)) (more (node 61 61 2128 (method (codes "any?") (node 61 61 2128 (body no_param (node 61 61 2139 (statements (more (node 61 61 2139 (send without no_more [] without (codes "each") false (with (node 61 61 2144 (body (required (codes "x") no_param) (node 61 61 2150 (statements (more (node 61 61 2150 (if_else (node 61 61 2166 (statements (more (node 61 61 2166 (if_else (node 61 61 2166 (send without no_more [] without (codes "block_given?") true without)) (node 61 61 2181 (yield (more (node 61 61 2187 (local (codes "x"))) no_more) [])) (with (node 61 61 2192 (local (codes "x")))))) no_more))) (node 61 61 2150 (statements (more (node 61 61 2150 (return_with (more (node 61 61 2157 true_value) no_more))) no_more))) without)) no_more)))))))) (more (node 61 61 2198 false_value) no_more)))))) false)) (more (node 62 62 2210 (method (codes "all?") (node 62 62 2210 (body no_param (node 62 62 2221 (statements (more (node 62 62 2221 (send without no_more [] without (codes "each") false (with (node 62 62 2226 (body (required (codes "x") no_param) (node 62 62 2232 (statements (more (node 62 62 2232 (if_else (node 62 62 2253 (statements (more (node 62 62 2253 (if_else (node 62 62 2253 (send without no_more [] without (codes "block_given?") true without)) (node 62 62 2268 (yield (more (node 62 62 2274 (local (codes "x"))) no_more) [])) (with (node 62 62 2279 (local (codes "x")))))) no_more))) (node 0 0 0 (statements no_more)) (with (node 62 62 2232 (statements (more (node 62 62 2232 (return_with (more (node 62 62 2239 false_value) no_more))) no_more)))))) no_more)))))))) (more (node 62 62 2285 true_value) no_more)))))) false)) (more (node 63 63 2296 (method (codes "inject") (node 63 63 2296 (body (required (codes "s") no_param) (node 63 63 2310 (statements (more (node 63 63 2310 (send without no_more [] without (codes "each") false (with (node 63 63 2315 (body (required (codes "x") no_param) (node 63 63 2321 (statements (more (node 63 63 2321 (assign (node 63 63 2325 (yield (more (node 63 63 2331 (local (codes "s"))) (more (node 63 63 2334 (local (codes "x"))) no_more)) [])) (to_local (codes "s")))) no_more)))))))) (more (node 63 63 2340 (local (codes "s"))) no_more)))))) false)) (more (node 64 64 2348 (method (codes "sum") (node 64 64 2348 (body (optional (codes "s") (node 64 64 2360 (integer (pos 0))) no_param) (node 64 64 2363 (statements (more (node 64 64 2363 (send without no_more [] without (codes "each") false (with (node 64 64 2368 (body (required (codes "x") no_param) (node 64 64 2374 (statements (more (node 64 64 2374 (assign (node 64 64 2378 (send (with (node 64 64 2378 (local (codes "s")))) (more (node 64 64 2383 (statements (more (node 64 64 2383 (if_else (node 64 64 2383 (send without no_more [] without (codes "block_given?") true without)) (node 64 64 2398 (yield (more (node 64 64 2404 (local (codes "x"))) no_more) [])) (with (node 64 64 2409 (local (codes "x")))))) no_more))) no_more) [] without (codes "+") false without)) (to_local (codes "s")))) no_more)))))))) (more (node 64 64 2415 (local (codes "s"))) no_more)))))) false)) (more (node 65 65 2423 (method (codes "include?") (node 65 65 2423 (body (required (codes "v") no_param) (node 65 65 2439 (statements (more (node 65 65 2439 (send without no_more [] without (codes "each") false (with (node 65 65 2444 (body (required (codes "x") no_param) (node 65 65 2450 (statements (more (node 65 65 2450 (if_else (node 65 65 2465 (send (with (node 65 65 2465 (local (codes "x")))) (more (node 65 65 2470 (local (codes "v"))) no_more) [] without (codes "==") false without)) (node 65 65 2450 (statements (more (node 65 65 2450 (return_with (more (node 65 65 2457 true_value) no_more))) no_more))) without)) no_more)))))))) (more (node 65 65 2475 false_value) no_more)))))) false)) (more (node 66 66 2487 (method (codes "sort_by") (node 66 66 2487 (body no_param (node 66 66 2501 (statements (more (node 66 66 2501 (send (with (node 66 66 2501 (send without no_more [] without (codes "map") false (with (node 66 66 2505 (body (required (codes "x") no_param) (node 66 66 2511 (statements (more (node 66 66 2511 (array (more (node 66 66 2512 (yield (more (node 66 66 2518 (local (codes "x"))) no_more) [])) (more (node 66 66 2522 (local (codes "x"))) no_more)) [])) no_more))))))))) no_more [] without (codes "__sort_pairs") false without)) no_more))))) false)) (more (node 67 67 2546 (method (codes "compact") (node 67 67 2546 (body no_param (node 67 67 2560 (statements (more (node 67 67 2560 (send without no_more [] without (codes "reject") false (with (node 67 67 2567 (body (required (codes "x") no_param) (node 67 67 2573 (statements (more (node 67 67 2573 (send (with (node 67 67 2573 (local (codes "x")))) no_more [] without (codes "nil?") false without)) no_more)))))))) no_more))))) false)) (more (node 68 68 2588 (method (codes "join") (node 68 68 2588 (body (optional (codes "s") (node 68 68 2601 (text [])) no_param) (node 68 68 2605 (statements (more (node 68 68 2605 (send (with (node 68 68 2605 (send without no_more [] without (codes "map") false (with (node 68 68 2609 (body (required (codes "x") no_param) (node 68 68 2615 (statements (more (node 68 68 2615 (if_else (node 68 68 2615 (send (with (node 68 68 2615 (local (codes "x")))) (more (node 68 68 2623 (constant_path without false ((codes "Array") ∷ []))) no_more) [] without (codes "is_a?") false without)) (node 68 68 2632 (send (with (node 68 68 2632 (local (codes "x")))) (more (node 68 68 2639 (local (codes "s"))) no_more) [] without (codes "join") false without)) (with (node 68 68 2644 (joined (code_piece (node 68 68 2647 (statements (more (node 68 68 2647 (local (codes "x"))) no_more))) no_piece)))))) no_more))))))))) (more (node 68 68 2660 (local (codes "s"))) no_more) [] without (codes "__join") false without)) no_more))))) false)) (more (node 69 69 2669 (method (codes "inspect") (node 69 69 2669 (body no_param (node 69 69 2683 (statements (more (node 69 69 2683 (send (with (node 69 69 2683 (send (with (node 69 69 2683 (text (codes "[")))) (more (node 69 69 2689 (send (with (node 69 69 2689 (send without no_more [] without (codes "map") false (with (node 69 69 2693 (body (required (codes "x") no_param) (node 69 69 2699 (statements (more (node 69 69 2699 (send (with (node 69 69 2699 (local (codes "x")))) no_more [] without (codes "inspect") false without)) no_more))))))))) (more (node 69 69 2718 (text (codes ", "))) no_more) [] without (codes "__join") false without)) no_more) [] without (codes "+") false without))) (more (node 69 69 2726 (text (codes "]"))) no_more) [] without (codes "+") false without)) no_more))))) false)) (more (node 70 70 2736 (method (codes "to_s") (node 70 70 2736 (body no_param (node 70 70 2747 (statements (more (node 70 70 2747 (send without no_more [] without (codes "inspect") true without)) no_more))))) false)) (more (node 71 71 2761 (method (codes "to_a") (node 71 71 2761 (body no_param (node 71 71 2772 (statements (more (node 71 71 2772 self_value) no_more))))) false)) (more (node 72 72 2783 (method (codes "==") (node 72 72 2783 (body (required (codes "o") no_param) (node 72 72 2792 (statements (more (node 73 73 2797 (if_else (node 73 73 2817 (both (node 73 73 2817 (send (with (node 73 73 2817 (local (codes "o")))) (more (node 73 73 2825 (constant_path without false ((codes "Array") ∷ []))) no_more) [] without (codes "is_a?") false without)) (node 73 73 2835 (send (with (node 73 73 2835 (send (with (node 73 73 2835 (local (codes "o")))) no_more [] without (codes "size") false without))) (more (node 73 73 2845 (send without no_more [] without (codes "size") true without)) no_more) [] without (codes "==") false without)))) (node 0 0 0 (statements no_more)) (with (node 73 73 2797 (statements (more (node 73 73 2797 (return_with (more (node 73 73 2804 false_value) no_more))) no_more)))))) (more (node 74 74 2854 (send without no_more [] without (codes "each_with_index") false (with (node 74 74 2870 (body (required (codes "x") (required (codes "i") no_param)) (node 74 74 2879 (statements (more (node 74 74 2879 (if_else (node 74 74 2899 (send (with (node 74 74 2899 (local (codes "x")))) (more (node 74 74 2904 (send (with (node 74 74 2904 (local (codes "o")))) (more (node 74 74 2906 (local (codes "i"))) no_more) [] without (codes "[]") false without)) no_more) [] without (codes "==") false without)) (node 0 0 0 (statements no_more)) (with (node 74 74 2879 (statements (more (node 74 74 2879 (return_with (more (node 74 74 2886 false_value) no_more))) no_more)))))) no_more)))))))) (more (node 75 75 2915 true_value) no_more))))))) false)) no_more))))))))))))))))))))))))

-- `class Hash`, line 78
abbrev hash_tree : Tree
hash_tree = node 78 78 2930 (class without (codes "Hash") (node 78 78 2930 (body no_param (node 79 79 2943 (statements (more (node 79 79 2943 (method (codes "new") (node 79 79 2943 (body (optional (codes "d") (node 79 79 2960 nil_value) no_param) (node 79 79 2965 (statements (more (node 79 79 2965 (send without (more (node 79 79 2972 (local (codes "d"))) no_more) [] without (codes "__hash") false without)) no_more))))) true)) (more (node 80 80 2981 (method (codes "to_a") (node 80 80 2981 (body no_param (node 80 80 2992 (statements (more (node 80 80 2992 (send (with (node 80 80 2992 (send without no_more [] without (codes "keys") true without))) no_more [] without (codes "map") false (with (node 80 80 3001 (body (required (codes "k") no_param) (node 80 80 3007 (statements (more (node 80 80 3007 (array (more (node 80 80 3008 (local (codes "k"))) (more (node 80 80 3011 (send (with (node 80 80 3011 self_value)) (more (node 80 80 3016 (local (codes "k"))) no_more) [] without (codes "[]") false without)) no_more)) [])) no_more)))))))) no_more))))) false)) (more (node 81 81 3028 (method (codes "each") (node 81 81 3028 (body no_param (node 81 81 3039 (statements (more (node 81 81 3039 (send (with (node 81 81 3039 (send without no_more [] without (codes "to_a") true without))) no_more [] without (codes "each") false (with (node 81 81 3049 (body (required (codes "x") no_param) (node 81 81 3055 (statements (more (node 81 81 3055 (yield (more (node 81 81 3061 (local (codes "x"))) no_more) [])) no_more)))))))) (more (node 81 81 3066 self_value) no_more)))))) false)) (more (node 82 82 3077 (method (codes "map") (node 82 82 3077 (body no_param (node 82 82 3087 (statements (more (node 82 82 3087 (send (with (node 82 82 3087 (send without no_more [] without (codes "to_a") true without))) no_more [] without (codes "map") false (with (node 82 82 3096 (body (required (codes "x") no_param) (node 82 82 3102 (statements (more (node 82 82 3102 (yield (more (node 82 82 3108 (local (codes "x"))) no_more) [])) no_more)))))))) no_more))))) false)) (more (node 83 83 3118 (method (codes "select") (node 83 83 3118 (body no_param (node 83 83 3131 (statements (more (node 83 83 3131 (assign (node 83 83 3135 (hash no_pair)) (to_local (codes "r")))) (more (node 83 83 3139 (send without no_more [] without (codes "each") false (with (node 83 83 3144 (body (required (codes "k") (required (codes "v") no_param)) (node 83 83 3153 (statements (more (node 83 83 3153 (if_else (node 83 83 3165 (yield (more (node 83 83 3171 (local (codes "k"))) (more (node 83 83 3174 (local (codes "v"))) no_more)) [])) (node 83 83 3153 (statements (more (node 83 83 3153 (assign_index (node 83 83 3153 (local (codes "r"))) (node 83 83 3155 (local (codes "k"))) (node 83 83 3160 (local (codes "v"))))) no_more))) without)) no_more)))))))) (more (node 83 83 3180 (local (codes "r"))) no_more))))))) false)) (more (node 84 84 3188 (method (codes "fetch") (node 84 84 3188 (body (required (codes "k") no_param) (node 84 84 3201 (statements (more (node 84 84 3201 (if_else (node 84 84 3201 (send without (more (node 84 84 3206 (local (codes "k"))) no_more) [] without (codes "key?") false without)) (node 84 84 3211 (send (with (node 84 84 3211 self_value)) (more (node 84 84 3216 (local (codes "k"))) no_more) [] without (codes "[]") false without)) (with (node 84 84 3221 (send without (more (node 84 84 3227 (constant_path without false ((codes "KeyError") ∷ []))) (more (node 84 84 3237 (joined (plain_piece (codes "key not found: ") (code_piece (node 84 84 3255 (statements (more (node 84 84 3255 (send (with (node 84 84 3255 (local (codes "k")))) no_more [] without (codes "inspect") false without)) no_more))) no_piece)))) no_more)) [] without (codes "raise") false without))))) no_more))))) false)) (more (node 85 85 3274 (method (codes "inspect") (node 85 85 3274 (body no_param (node 85 85 3288 (statements (more (node 85 85 3288 (send (with (node 85 85 3288 (send (with (node 85 85 3288 (text (codes "{")))) (more (node 85 85 3294 (send (with (node 85 85 3294 (send without no_more [] without (codes "map") false (with (node 85 85 3298 (body (required (codes "k") (required (codes "v") no_param)) (node 85 85 3307 (statements (more (node 85 85 3307 (send (with (node 85 85 3307 (send (with (node 85 85 3307 (send (with (node 85 85 3307 (local (codes "k")))) no_more [] without (codes "inspect") false without))) (more (node 85 85 3319 (text (codes "=>"))) no_more) [] without (codes "+") false without))) (more (node 85 85 3326 (send (with (node 85 85 3326 (local (codes "v")))) no_more [] without (codes "inspect") false without)) no_more) [] without (codes "+") false without)) no_more))))))))) (more (node 85 85 3345 (text (codes ", "))) no_more) [] without (codes "__join") false without)) no_more) [] without (codes "+") false without))) (more (node 85 85 3353 (text (codes "}"))) no_more) [] without (codes "+") false without)) no_more))))) false)) (more (node 86 86 3363 (method (codes "to_s") (node 86 86 3363 (body no_param (node 86 86 3374 (statements (more (node 86 86 3374 (send without no_more [] without (codes "inspect") true without)) no_more))))) false)) (more (node 87 87 3388 (method (codes "==") (node 87 87 3388 (body (required (codes "o") no_param) (node 87 87 3397 (statements (more (node 88 88 3402 (if_else (node 88 88 3422 (both (node 88 88 3422 (send (with (node 88 88 3422 (local (codes "o")))) (more (node 88 88 3430 (constant_path without false ((codes "Hash") ∷ []))) no_more) [] without (codes "is_a?") false without)) (node 88 88 3439 (send (with (node 88 88 3439 (send (with (node 88 88 3439 (local (codes "o")))) no_more [] without (codes "size") false without))) (more (node 88 88 3449 (send without no_more [] without (codes "size") true without)) no_more) [] without (codes "==") false without)))) (node 0 0 0 (statements no_more)) (with (node 88 88 3402 (statements (more (node 88 88 3402 (return_with (more (node 88 88 3409 false_value) no_more))) no_more)))))) (more (node 89 89 3458 (send without no_more [] without (codes "each") false (with (node 89 89 3463 (body (required (codes "k") (required (codes "v") no_param)) (node 89 89 3472 (statements (more (node 89 89 3472 (if_else (node 89 89 3492 (both (node 89 89 3492 (send (with (node 89 89 3492 (local (codes "o")))) (more (node 89 89 3499 (local (codes "k"))) no_more) [] without (codes "key?") false without)) (node 89 89 3505 (send (with (node 89 89 3505 (local (codes "v")))) (more (node 89 89 3510 (send (with (node 89 89 3510 (local (codes "o")))) (more (node 89 89 3512 (local (codes "k"))) no_more) [] without (codes "[]") false without)) no_more) [] without (codes "==") false without)))) (node 0 0 0 (statements no_more)) (with (node 89 89 3472 (statements (more (node 89 89 3472 (return_with (more (node 89 89 3479 false_value) no_more))) no_more)))))) no_more)))))))) (more (node 90 90 3521 true_value) no_more))))))) false)) no_more))))))))))))))

-- `class Range`, line 93
abbrev range_tree : Tree
range_tree = node 93 93 3536 (class without (codes "Range") (node 93 93 3536 (body no_param (node 94 94 3550 (statements (more (node 94 94 3550 (method (codes "each") (node 94 94 3550 (body no_param (node 94 94 3561 (statements (more (node 94 94 3561 (assign (node 94 94 3565 (send without no_more [] without (codes "first") true without)) (to_local (codes "i")))) (more (node 94 94 3572 (while_loop (node 94 94 3620 (statements (more (node 94 94 3620 (yield (more (node 94 94 3626 (local (codes "i"))) no_more) [])) (more (node 94 94 3629 (assign (node 94 94 3629 (send (with (node 94 94 3629 (local (codes "i")))) (more (node 94 94 3634 (integer (pos 1))) no_more) [] without (codes "+") false without)) (to_local (codes "i")))) no_more)))) (node 94 94 3578 (either (node 94 94 3578 (send (with (node 94 94 3578 (local (codes "i")))) (more (node 94 94 3582 (send without no_more [] without (codes "last") true without)) no_more) [] without (codes "<") false without)) (node 94 94 3591 (statements (more (node 94 94 3591 (both (node 94 94 3591 (send (with (node 94 94 3591 (local (codes "i")))) (more (node 94 94 3596 (send without no_more [] without (codes "last") true without)) no_more) [] without (codes "==") false without)) (node 94 94 3604 (send (with (node 94 94 3605 (send without no_more [] without (codes "exclude_end?") true without))) no_more [] without (codes "!") false without)))) no_more))))) false false)) (more (node 94 94 3642 self_value) no_more))))))) false)) (more (node 95 95 3653 (method (codes "to_a") (node 95 95 3653 (body no_param (node 95 95 3664 (statements (more (node 95 95 3664 (assign (node 95 95 3668 (array no_more [])) (to_local (codes "r")))) (more (node 95 95 3672 (send without no_more [] without (codes "each") false (with (node 95 95 3677 (body (required (codes "x") no_param) (node 95 95 3683 (statements (more (node 95 95 3683 (send (with (node 95 95 3683 (local (codes "r")))) (more (node 95 95 3688 (local (codes "x"))) no_more) [] without (codes "<<") false without)) no_more)))))))) (more (node 95 95 3693 (local (codes "r"))) no_more))))))) false)) (more (node 96 96 3701 (method (codes "map") (node 96 96 3701 (body no_param (node 96 96 3711 (statements (more (node 96 96 3711 (send (with (node 96 96 3711 (send without no_more [] without (codes "to_a") true without))) no_more [] without (codes "map") false (with (node 96 96 3720 (body (required (codes "x") no_param) (node 96 96 3726 (statements (more (node 96 96 3726 (yield (more (node 96 96 3732 (local (codes "x"))) no_more) [])) no_more)))))))) no_more))))) false)) (more (node 97 97 3742 (method (codes "===") (node 97 97 3742 (body (required (codes "v") no_param) (node 97 97 3753 (statements (more (node 97 97 3753 (both (node 97 97 3753 (both (node 97 97 3753 (send (with (node 97 97 3753 (local (codes "v")))) (more (node 97 97 3761 (constant_path without false ((codes "Integer") ∷ []))) no_more) [] without (codes "is_a?") false without)) (node 97 97 3773 (send (with (node 97 97 3773 (local (codes "v")))) (more (node 97 97 3778 (send without no_more [] without (codes "first") true without)) no_more) [] without (codes ">=") false without)))) (node 97 97 3788 (statements (more (node 97 97 3788 (if_else (node 97 97 3788 (send without no_more [] without (codes "exclude_end?") true without)) (node 97 97 3803 (send (with (node 97 97 3803 (local (codes "v")))) (more (node 97 97 3807 (send without no_more [] without (codes "last") true without)) no_more) [] without (codes "<") false without)) (with (node 97 97 3814 (send (with (node 97 97 3814 (local (codes "v")))) (more (node 97 97 3819 (send without no_more [] without (codes "last") true without)) no_more) [] without (codes "<=") false without))))) no_more))))) no_more))))) false)) (more (node 98 98 3831 (method (codes "include?") (node 98 98 3831 (body (required (codes "v") no_param) (node 98 98 3847 (statements (more (node 98 98 3847 (send (with (node 98 98 3847 self_value)) (more (node 98 98 3856 (local (codes "v"))) no_more) [] without (codes "===") false without)) no_more))))) false)) (more (node 99 99 3864 (method (codes "==") (node 99 99 3864 (body (required (codes "o") no_param) (node 99 99 3874 (statements (more (node 99 99 3874 (both (node 99 99 3874 (send (with (node 99 99 3874 (local (codes "o")))) (more (node 99 99 3882 (constant_path without false ((codes "Range") ∷ []))) no_more) [] without (codes "is_a?") false without)) (node 99 99 3892 (send (with (node 99 99 3892 (send (with (node 99 99 3892 (local (codes "o")))) no_more [] without (codes "inspect") false without))) (more (node 99 99 3905 (send without no_more [] without (codes "inspect") true without)) no_more) [] without (codes "==") false without)))) no_more))))) false)) (more (node 100 100 3919 (method (codes "inspect") (node 100 100 3919 (body no_param (node 100 100 3933 (statements (more (node 100 100 3933 (send (with (node 100 100 3933 (send (with (node 100 100 3933 (joined (code_piece (node 100 100 3936 (statements (more (node 100 100 3936 (send without no_more [] without (codes "first") true without)) no_more))) no_piece)))) (more (node 100 100 3947 (statements (more (node 100 100 3947 (if_else (node 100 100 3947 (send without no_more [] without (codes "exclude_end?") true without)) (node 100 100 3962 (text (codes "..."))) (with (node 100 100 3970 (text (codes "..")))))) no_more))) no_more) [] without (codes "+") false without))) (more (node 100 100 3978 (joined (code_piece (node 100 100 3981 (statements (more (node 100 100 3981 (send without no_more [] without (codes "last") true without)) no_more))) no_piece))) no_more) [] without (codes "+") false without)) no_more))))) false)) (more (node 101 101 3994 (method (codes "to_s") (node 101 101 3994 (body no_param (node 101 101 4005 (statements (more (node 101 101 4005 (send without no_more [] without (codes "inspect") true without)) no_more))))) false)) no_more)))))))))))))

abbrev pub prelude_tree : Tree
prelude_tree = node 1 1 0 (statements (more object_tree (more class_tree (more exception_tree (more systemexit_tree (more proc_tree (more integer_tree (more array_tree (more hash_tree (more range_tree no_more))))))))))
