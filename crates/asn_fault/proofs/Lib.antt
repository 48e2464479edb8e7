mod ListRows
